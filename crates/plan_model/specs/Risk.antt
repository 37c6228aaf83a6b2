-- The traps that an instruction may meet under a may map. The project's own rules: each list
-- mirrors the traps of its instruction, and a test holds where the trap may arise. Parameters as in
-- May.
--
--   candidates                  the variants that an unpack may take
--   unpack_risks, .., risk      the tests of each instruction; the first trap that it may meet
use Rattle.std.specs.Prelude.{ℕ, ◌+◌, Bool, not, ◌&&◌, ◌||◌, nat_lt, nat_le, List, [], ◌∷◌, Option, Some, None}
use Rattle.std.specs.List.{list_any}
use Rattle.deb_relation.specs.Relations.{Entry}
use Rattle.deb_relation.specs.declared.operator.Op.{Op}
use Rattle.farm_model.specs.Common.{Universe, Recipe, variant, essential, pre_depends, depends, recipe, is_wanted, satisfies_entry, satisfies_any, breaks, conflict, member, unmet, entries, first_trap}
use Rattle.farm_model.specs.declared.types.Variant.{Variant}
use Rattle.farm_model.specs.declared.types.Trap.{Trap}
use Rattle.farm_model.specs.declared.types.Trap.TheVariants.{Missing, PreDepends, Conflict, BreaksOther, Full, WrongState, Depends, Broken, StillNeeded, Unsettled, BuildDepends, BuildConflict, NotBuilt, OverBudget, Essential}
use Rattle.plan_model.specs.declared.instructions.Instruction.{Instruction}
use Rattle.plan_model.specs.declared.instructions.Instruction.TheVariants.{Unpack, Configure, Deconfigure, Remove, Build, Publish}
use Rattle.plan_model.specs.Plan.{Lane, capacity, size_cost, set_cost, build_cost, publish_cost}
use Rattle.plan_model.specs.Turn.{was_built, newest}
use Rattle.plan_model.specs.May.{Bits, May, any_of, some_name, some_other_name, may_have, may_have_configured, surely_has_configured, surely_met, surely_met_with, surely_pre_met, greatest_size, may_use, is_surely_unpacked, is_surely_configured, is_surely_present}

-- the variants that an unpack may take: those that may be there and are wanted, from the highest
-- known one up
unfoldable pub candidates : Universe → (Variant → Bool) → ℕ → Option (Op × List ℕ) → ℕ → Bits
candidates u there name wanted highest b =
    (there (variant name b) && is_wanted u wanted (variant name b)) && nat_le highest b

-- what an unpack of one of these costs at most
abbrev pub greatest_cost : Universe → ℕ → Bits → ℕ
greatest_cost u name set = size_cost (greatest_size u name set)

-- a cost that may be over the budget
abbrev pub may_exceed : Lane → May → ℕ → Bool
may_exceed of m cost = nat_lt of.budget (m.cost + cost)

-- an unpack of one of these variants, for each of them, where an entry is `met` ahead of it and so
-- much space is `used`
abbrev pub unpack_risks_by : Universe → Lane → May → ℕ → Bits → (met : Entry → Bool) → (used : ℕ)
    → List (Bool × Trap)
unpack_risks_by u of m name set met used =
    (may_exceed of m (greatest_cost u name set), OverBudget)  -- X14
    ∷ (
      any_of u name set (λ v. unmet met (pre_depends u v)),
      PreDepends,  -- X2
    )
    ∷ (
      any_of u name set (λ v. some_other_name u name m (may_have u (conflict u v))),
      Conflict,  -- X3
    )
    ∷ (
      any_of u name set (λ v. some_other_name u name m (may_have_configured u (breaks u v))),
      BreaksOther,  -- X4
    )
    ∷ (nat_lt (capacity u of) (used + greatest_size u name set), Full)  -- X5
    ∷ []

-- the same, where it is surely met under the map, and what the map may hold is there
abbrev pub unpack_risks : Universe → Lane → May → ℕ → Bits → List (Bool × Trap)
unpack_risks u of m name set =
    unpack_risks_by u of m name set (surely_pre_met u name m) (may_use u m)

-- no known variant is wanted, or the highest one is this
abbrev pub unpack_risk : Universe → (Variant → Bool) → Lane → May → ℕ → Option (Op × List ℕ)
    → Option ℕ → Option Trap
unpack_risk u there of m name wanted None = Some Missing  -- X1
unpack_risk u there of m name wanted (Some highest) =
    first_trap (unpack_risks u of m name (candidates u there name wanted highest))

-- some variant that a member may hold passes
abbrev pub some_may_member : Universe → List ℕ → May → (Variant → Bool) → Bool
some_may_member u members m p =
    list_any (λ k. may_have u p k (m.slots k)) members

-- configure: each test of its traps, for every variant that a member may hold
abbrev pub configure_risks : Universe → Lane → May → List ℕ → List (Bool × Trap)
configure_risks u of m members =
    (may_exceed of m (set_cost members), OverBudget)  -- X14
    ∷ (list_any (λ k. not (is_surely_unpacked (m.slots k))) members, WrongState)  -- X6
    ∷ (
      some_may_member u members m (λ v. unmet (surely_met u m) (pre_depends u v)),
      PreDepends,  -- X2
    )
    ∷ (
      some_may_member u members m (λ v. unmet (surely_met_with u members m) (depends u v)),
      Depends,  -- X7
    )
    ∷ (
      some_may_member u members m
          (λ v. some_other_name u v.name m (may_have u (λ other. breaks u other v))),
      Broken,  -- X8
    )
    ∷ []

-- a configured name outside the set satisfies the entry whichever variant it holds
unfoldable pub surely_met_outside : Universe → List ℕ → May → Entry → Bool
surely_met_outside u members m e =
    some_name u m (λ n s. not (member members n)
    && surely_has_configured u (satisfies_entry u e) n s)

-- a configured member may satisfy the entry
unfoldable pub may_meet : Universe → List ℕ → May → Entry → Bool
may_meet u members m e = some_name u m
    (λ n s. member members n && may_have_configured u (satisfies_entry u e) n s)

-- an entry of a variant that a configured name outside the set may hold: a member may meet it, and
-- no other surely does
unfoldable pub may_be_needed : Universe → List ℕ → May → Bool
may_be_needed u members m =
    some_name u m
    (λ n s. not (member members n)
    && may_have_configured u (λ v. list_any
    (λ e. may_meet u members m e && not (surely_met_outside u members m e)) (entries u v)) n s)

-- deconfigure: each test of its traps
abbrev pub deconfigure_risks : Universe → Lane → May → List ℕ → List (Bool × Trap)
deconfigure_risks u of m members =
    (may_exceed of m (set_cost members), OverBudget)  -- X14
    ∷ (list_any (λ k. not (is_surely_configured (m.slots k))) members, WrongState)  -- X6
    ∷ (may_be_needed u members m, StillNeeded)  -- X9
    ∷ []

-- remove: each test of its traps, Essential for every variant that a member may hold
abbrev pub remove_risks : Universe → Lane → May → List ℕ → List (Bool × Trap)
remove_risks u of m members =
    (may_exceed of m (set_cost members), OverBudget)  -- X14
    ∷ (list_any (λ k. not (is_surely_present (m.slots k))) members, WrongState)  -- X6
    ∷ (some_may_member u members m (essential u), Essential)  -- X15
    ∷ (may_be_needed u members m, StillNeeded)  -- X9
    ∷ []

-- a present name may be unpacked alone, or hold a variant with an entry that is not surely met
unfoldable pub may_be_unsettled : Universe → May → Bool
may_be_unsettled u m = some_name u m
    (λ n s. is_surely_unpacked s || may_have u (λ v. unmet (surely_met u m) (entries u v)) n s)

-- build: each test of its traps
abbrev pub build_risks : Universe → Lane → May → Recipe → List (Bool × Trap)
build_risks u of m r =
    (may_exceed of m (build_cost r), OverBudget)  -- X14
    ∷ (may_be_unsettled u m, Unsettled)  -- X10
    ∷ (unmet (surely_met u m) r.needs, BuildDepends)  -- X11
    ∷ (some_name u m (may_have u (satisfies_any u r.clashes)), BuildConflict)  -- X12
    ∷ (nat_lt (capacity u of) (may_use u m + r.scratch), Full)  -- X5
    ∷ []

-- publish: the cost may be over the budget; the recipe was not surely built
abbrev pub publish_risks : Universe → Lane → May → ℕ → List (Bool × Trap)
publish_risks u of m r = (may_exceed of m (publish_cost u r), OverBudget) ∷  -- X14
    (not (was_built m.built r), NotBuilt) ∷ []  -- X13

-- the first trap that an instruction may meet, where `known` is surely in the archive and `there`
-- may be
abbrev pub risk : Universe → Lane → (Variant → Bool) → (Variant → Bool) → May → Instruction
    → Option Trap
risk u of known there m (Unpack name wanted) =
    unpack_risk u there of m name wanted (newest u known name wanted)
risk u of known there m (Configure members) = first_trap (configure_risks u of m members)
risk u of known there m (Deconfigure members) = first_trap (deconfigure_risks u of m members)
risk u of known there m (Remove members) = first_trap (remove_risks u of m members)
risk u of known there m (Build r) = first_trap (build_risks u of m (recipe u r))
risk u of known there m (Publish r) = first_trap (publish_risks u of m r)
risk u of known there m _ = None
