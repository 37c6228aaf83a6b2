-- Why an instruction may meet a trap under a may map: the witnesses of the trap's test, of which
-- the reason is the first. The project's own rules: they go by the very tests of plan_model's Risk
-- and May. Parameters: u a universe, of a lane, m a may map, v a variant.
--
--   asked_in_field, asked               the entries of a field, and of what asks for packages
--   unmet, unmet_of                     those that are not met, and all of a variant
--   needed, needed_of                   those for which one of these may be needed
--   outside                             the map without the members of a set
--   needing                             the entries for which a member may be needed
--   excluded                            a variant that excludes another one
--   answers, IsFit                      what is listed of a variant, where it is of the universe
--   unpack_reasons, .., reasons         the reasons of a trap of each instruction; of any one
--   reasons_at, reason_at               at a place of a plan, all and the first
--   is_unmet                            a reason is an entry that is not met
use Rattle.std.specs.Prelude.{ℕ, ◌+◌, ◌<◌, Bool, true, false, not, ◌&&◌, nat_lt, All, List, [], ◌∷◌, ◌++◌, length, Option, Some, None, map, filter, slice_get}
use Rattle.std.specs.List.{flat_map, list_any}
use Rattle.deb_relation.specs.Relations.{Entry, Relations}
use Rattle.deb_relation.specs.declared.operator.Op.{Op}
use Rattle.farm_model.specs.Common.{Universe, names, essential, pre_depends, depends, recipe, satisfies_entry, satisfies_any, member, IsKnown}
use Rattle.farm_model.specs.declared.types.Variant.{Variant}
use Rattle.farm_model.specs.declared.types.Trap.{Trap}
use Rattle.plan_model.specs.Common.{Lane, Plan, lane, instruction_at, capacity, set_cost, build_cost, publish_cost, was_built, newest, Bits, MayAbsent, May, surely_met, greatest_size, may_use, is_surely_unpacked, may_at, may_be_configured, Rows, possible, candidates, greatest_cost, may_exceed}
use Rattle.plan_model.specs.declared.instructions.Instruction.{Instruction}
use Rattle.plan_model.specs.declared.instructions.Instruction.TheVariants.{Unpack, Configure, Deconfigure, Remove, Build, Publish}
use Rattle.sat_rows.specs.Rows.{conflicts_with, broken_by, breakers_of}
use Rattle.may_rows.specs.Configures.{slots_after}
use Rattle.may_rows.specs.Words.{AreWords, may_of, surely_met_ahead}
use Rattle.explain_reasons.specs.Listed.{all_below, held_members, held_names, is_in, one_if, passing, variants_in}
use Rattle.explain_reasons.specs.declared.held.Phase.{Phase}
use Rattle.explain_reasons.specs.declared.listed.Asked.{Asked}
use Rattle.explain_reasons.specs.declared.listed.Asking.{Asking}
use Rattle.explain_reasons.specs.declared.listed.Exclusion.{Exclusion}
use Rattle.explain_reasons.specs.declared.types.Field.{Field}
use Rattle.explain_reasons.specs.declared.types.Reason.{Reason}

-- ---- entries

abbrev pub asked_in_field : Universe → Variant → Field → Relations
asked_in_field u v Field.PreDepends = pre_depends u v
asked_in_field u v Field.Depends = depends u v

-- the entries of what asks for packages
abbrev pub asked : Universe → Asking → Relations
asked u (Asking.Of v field) = asked_in_field u v field
asked u (Asking.Ahead v) = pre_depends u v
asked u (Asking.Needs r) = (recipe u r).needs
asked u (Asking.Still these v field) = asked_in_field u v field

-- what asks is of the universe
abbrev pub IsAsking : Universe → Asking → Type 0
IsAsking u (Asking.Of v field) = IsKnown u v
IsAsking u (Asking.Ahead v) = IsKnown u v
IsAsking u (Asking.Needs r) = r < length u.recipes
IsAsking u (Asking.Still these v field) = All (IsKnown u) these.now × IsKnown u v

-- an entry counts
abbrev pub counts : Universe → Asking → Entry → Bool
counts u (Asking.Still these v field) e = list_any (satisfies_entry u e) these.now
counts u _ e = true

abbrev pub meets : Universe → May → Asking → Entry → Bool
meets u m (Asking.Ahead v) e = surely_met_ahead u m e
meets u m _ e = surely_met u m e

-- the entry of a number
abbrev pub told : Asking → ℕ → Reason
told (Asking.Of v field) i = Reason.Unmet v field i
told (Asking.Ahead v) i = Reason.Unmet v Field.PreDepends i
told (Asking.Needs r) i = Reason.BuildNeed r i
told (Asking.Still these v field) i = Reason.StillNeeded v field i

-- the entries that count and are not met
abbrev pub unmet : Universe → May → Asking → List Reason
unmet u m asking =
    passing (asked u asking) (λ e. counts u asking e && not (meets u m asking e))
    (λ i. told asking i)

-- Depends before Pre-Depends
abbrev pub unmet_of : Universe → May → Variant → List Reason
unmet_of u m v =
    unmet u m (Asking.Of v Field.Depends) ++ unmet u m (Asking.Of v Field.PreDepends)

-- one of these satisfies the entry, and nothing configured surely does
abbrev pub needs_one : Universe → List Variant → May → Entry → Bool
needs_one u these m e = list_any (satisfies_entry u e) these && not (surely_met u m e)

abbrev pub needed : Universe → List Variant → May → Field → Variant → List Reason
needed u these m field v =
    passing (asked_in_field u v field) (λ e. needs_one u these m e)
    (λ i. Reason.StillNeeded v field i)

abbrev pub needed_of : Universe → List Variant → May → Variant → List Reason
needed_of u these m v =
    needed u these m Field.Depends v ++ needed u these m Field.PreDepends v

-- without the members of a set
abbrev pub outside : List ℕ → May → May
outside members m = slots_after (λ s. MayAbsent) m members

-- what members in a phase may hold
abbrev pub of_members : Universe → Phase → List ℕ → May → List Variant
of_members u phase members m = filter (λ v. member members v.name) (held_names u phase m)

-- the entries of what is held in a phase outside the set, for which a member in the other phase may
-- be needed
abbrev pub needing : Universe → (owner by : Phase) → List ℕ → May → List Reason
needing u owner by members m =
    flat_map (needed_of u (of_members u by members m) (outside members m))
    (held_names u owner (outside members m))

-- ---- tests of several instructions

abbrev pub over_budget : Lane → May → ℕ → List Reason
over_budget of m cost = one_if (may_exceed of m cost) (Reason.OverBudget m.cost cost of.budget)

abbrev pub too_full : Universe → Lane → May → ℕ → List Reason
too_full u of m added =
    one_if (nat_lt (capacity u of) (may_use u m + added))
    (Reason.Full (may_use u m) added (capacity u of))

-- the members that are not surely in the phase that is asked for
abbrev pub wrong_state : Phase → List ℕ → May → List Reason
wrong_state phase members m =
    map Reason.WrongState (filter (λ k. not (is_in phase (m.slots k))) members)

-- v and a variant w of another name exclude each other so
abbrev pub excluded : Universe → Exclusion → (v w : Variant) → List Reason
excluded u Exclusion.Conflict v w = one_if (conflicts_with u v w) (Reason.Conflict v w)
excluded u Exclusion.Breaks v w = one_if (broken_by u v w) (Reason.Breaks v w)
excluded u Exclusion.Broken v w = one_if (breakers_of u v w) (Reason.Breaks w v)

-- of what may be held in this phase
abbrev pub all_excluded : Universe → Exclusion → Phase → May → Variant → List Reason
all_excluded u how phase m v = flat_map (excluded u how v) (held_names u phase m)

-- what is listed of a variant
abbrev pub answers : Universe → Asked → Variant → List Reason
answers u (Asked.Unmet field w) v = unmet u (may_of w.now) (Asking.Of v field)
answers u (Asked.Unsettled w) v = unmet_of u (may_of w.now) v
answers u (Asked.Ahead w) v = unmet u (may_of w.now) (Asking.Ahead v)
answers u (Asked.Needed these w) v = needed_of u these.now (may_of w.now) v
answers u (Asked.Excluded how others) v = flat_map (excluded u how v) others.now
answers u Asked.Essential v = one_if (essential u v) (Reason.Essential v)
answers u (Asked.Clash r) v =
    one_if (satisfies_any u (recipe u r).clashes v) (Reason.BuildConflict r v)

-- what is asked is of the universe
abbrev pub IsFit : Universe → Asked → Type 0
IsFit u (Asked.Unmet field w) = AreWords u w.now
IsFit u (Asked.Unsettled w) = AreWords u w.now
IsFit u (Asked.Ahead w) = AreWords u w.now
IsFit u (Asked.Needed these w) = All (IsKnown u) these.now × AreWords u w.now
IsFit u (Asked.Excluded how others) = All (IsKnown u) others.now
IsFit u Asked.Essential = Unit {0}
IsFit u (Asked.Clash r) = r < length u.recipes

-- ---- each instruction

-- an unpack of one of these variants
abbrev pub unpack_reasons : Universe → Lane → May → ℕ → Bits → Trap → List Reason
unpack_reasons u of m name set Trap.OverBudget = over_budget of m (greatest_cost u name set)
unpack_reasons u of m name set Trap.PreDepends =
    flat_map (λ v. unmet u (outside (name ∷ []) m) (Asking.Ahead v)) (variants_in u name set)
unpack_reasons u of m name set Trap.Conflict =
    flat_map (all_excluded u Exclusion.Conflict Phase.Present m) (variants_in u name set)
unpack_reasons u of m name set Trap.BreaksOther =
    flat_map (all_excluded u Exclusion.Breaks Phase.Configured m) (variants_in u name set)
unpack_reasons u of m name set Trap.Full = too_full u of m (greatest_size u name set)
unpack_reasons u of m name set _ = []

-- the highest known variant that is wanted is this, or there is none
abbrev pub pick_reasons : Universe → (Variant → Bool) → Lane → May → ℕ → Option (Op × List ℕ)
    → Option ℕ → Trap → List Reason
pick_reasons u there of m name wanted None Trap.Missing = Reason.Missing name ∷ []
pick_reasons u there of m name wanted None _ = []
pick_reasons u there of m name wanted (Some highest) trap =
    unpack_reasons u of m name (candidates u there name wanted highest) trap

abbrev pub configure_reasons : Universe → Lane → May → List ℕ → Trap → List Reason
configure_reasons u of m members Trap.OverBudget = over_budget of m (set_cost members)
configure_reasons u of m members Trap.WrongState = wrong_state Phase.Unpacked members m
configure_reasons u of m members Trap.PreDepends =
    flat_map (λ v. unmet u m (Asking.Of v Field.PreDepends)) (held_members u members m)
configure_reasons u of m members Trap.Depends =
    flat_map
    (λ v. unmet u (slots_after may_be_configured m members) (Asking.Of v Field.Depends))
    (held_members u members m)
configure_reasons u of m members Trap.Broken =
    flat_map (all_excluded u Exclusion.Broken Phase.Present m) (held_members u members m)
configure_reasons u of m members _ = []

-- of a deconfigure or a remove, which asks for members in this phase
abbrev pub withdraw_reasons : Universe → Lane → May → Phase → List ℕ → Trap → List Reason
withdraw_reasons u of m phase members Trap.OverBudget = over_budget of m (set_cost members)
withdraw_reasons u of m phase members Trap.WrongState = wrong_state phase members m
withdraw_reasons u of m Phase.Present members Trap.Essential =
    flat_map (λ v. one_if (essential u v) (Reason.Essential v)) (held_members u members m)
withdraw_reasons u of m phase members Trap.StillNeeded =
    needing u Phase.Configured Phase.Configured members m
withdraw_reasons u of m phase members _ = []

-- a name is unpacked alone, and what it may hold has entries that are not surely met
abbrev pub unsettled : Universe → May → ℕ → List Reason
unsettled u m n =
    one_if (is_surely_unpacked (m.slots n)) (Reason.Unsettled n)
    ++ flat_map (unmet_of u m) (held_members u (n ∷ []) m)

abbrev pub build_reasons : Universe → Lane → May → ℕ → Trap → List Reason
build_reasons u of m r Trap.OverBudget = over_budget of m (build_cost (recipe u r))
build_reasons u of m r Trap.Unsettled = all_below (names u) (unsettled u m)
build_reasons u of m r Trap.BuildDepends = unmet u m (Asking.Needs r)
build_reasons u of m r Trap.BuildConflict =
    flat_map (λ v. one_if (satisfies_any u (recipe u r).clashes v) (Reason.BuildConflict r v))
    (held_names u Phase.Present m)
build_reasons u of m r Trap.Full = too_full u of m (recipe u r).scratch
build_reasons u of m r _ = []

abbrev pub publish_reasons : Universe → Lane → May → ℕ → Trap → List Reason
publish_reasons u of m r Trap.OverBudget = over_budget of m (publish_cost u r)
publish_reasons u of m r Trap.NotBuilt = one_if (not (was_built m.built r)) (Reason.NotBuilt r)
publish_reasons u of m r _ = []

-- why an instruction may meet a trap, where `known` is surely in the archive and `there` may be
abbrev pub reasons : Universe → Lane → (known there : Variant → Bool) → May → Instruction → Trap
    → List Reason
reasons u of known there m (Unpack name wanted) trap =
    pick_reasons u there of m name wanted (newest u known name wanted) trap
reasons u of known there m (Configure members) trap = configure_reasons u of m members trap
reasons u of known there m (Deconfigure members) trap =
    withdraw_reasons u of m Phase.Configured members trap
reasons u of known there m (Remove members) trap =
    withdraw_reasons u of m Phase.Present members trap
reasons u of known there m (Build r) trap = build_reasons u of m r trap
reasons u of known there m (Publish r) trap = publish_reasons u of m r trap
reasons u of known there m _ trap = []

-- ---- a place of a plan

-- of the instruction that is there, if any
abbrev pub reasons_of : Universe → Plan → Rows → (l i : ℕ) → Option Instruction → Trap
    → List Reason
reasons_of u p rows l i None trap = []
reasons_of u p rows l i (Some x) trap =
    reasons u (lane p l) (rows l i) (possible u p l i) (may_at u p rows l i) x trap

-- why lane l's instruction at place i may meet a trap
unfoldable pub reasons_at : Universe → Plan → Rows → (l i : ℕ) → Trap → List Reason
reasons_at u p rows l i trap = reasons_of u p rows l i (instruction_at p l i) trap

-- the first reason
abbrev pub reason_at : Universe → Plan → Rows → (l i : ℕ) → Trap → Option Reason
reason_at u p rows l i trap = slice_get (reasons_at u p rows l i trap) 0

abbrev pub is_unmet : Reason → Bool
is_unmet (Reason.Unmet v field i) = true
is_unmet (Reason.BuildNeed r i) = true
is_unmet _ = false
