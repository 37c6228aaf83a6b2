-- Lists of reasons and of what may be held, in the order of the rules: members and entries as
-- written, names by number, variants from the lowest bit up. The project's own words. Parameters: u
-- a universe, m a may map, n a name, s its slot.
--
--   all_below, first_below      of the numbers below a count, and the first answer of one
--   one_if, passing             of a test, and of the entries that pass
--   is_in                       a name is surely in a phase
--   variants_in, held_in        the variants of a set of a name, and those that it may hold in a
--                               phase
--   held_names, held_members    those of all names, and those of a set
--   IsPlaceOfLane               what an instruction goes by belongs together
--   of_place                    what is told of its universe, its lane, and what may be held there
--   Lists                       just this is listed, memory apart
use Rattle.std.specs.Prelude.{◌≡◌, ℕ, zero, suc, Bool, false, List, [], ◌∷◌, ◌++◌, length, Option, None, Result, IfOk, if◌then◌else◌, flat_map}
use Rattle.std.specs.Global.{Vec}
use Rattle.std.specs.Option.{option_or}
use Rattle.std.specs.declared.alloc.AllocError.{AllocError}
use Rattle.deb_relation.specs.Relations.{Entry, Relations}
use Rattle.farm_model.specs.Common.{Universe, variant, names, variants}
use Rattle.farm_model.specs.declared.types.Variant.{Variant}
use Rattle.plan_model.specs.Common.{Bits, MaySlot, MayAbsent, MayUnpacked, MayConfigured, May, is_surely_unpacked, is_surely_configured, is_surely_present, Lane}
use Rattle.sat_rows.specs.Rows.{nth_entry}
use Rattle.may_rows.specs.Walk.{IsOfLane}
use Rattle.may_rows.specs.Words.{may_of}
use Rattle.explain_reasons.specs.declared.held.Phase.{Phase}
use Rattle.explain_reasons.specs.declared.place.Place.{Place}
use Rattle.explain_reasons.specs.declared.types.Reason.{Reason}

-- of the numbers below n, from 0 up
abbrev pub all_below : {A : Type 0} → ℕ → (ℕ → List A) → List A
all_below zero f = []
all_below (suc n) f = all_below n f ++ f n

-- the answer of the first number below n that has one
abbrev pub first_below : {A : Type 0} → ℕ → (ℕ → Option A) → Option A
first_below zero f = None
first_below (suc n) f = option_or (first_below n f) (f n)

-- where a test passes
abbrev pub one_if : {A : Type 0} → Bool → A → List A
one_if test x = if test then x ∷ [] else []

-- of the entries that pass, by their places
unfoldable pub passing : Relations → (Entry → Bool) → (ℕ → Reason) → List Reason
passing es p reason = all_below (length es) (λ i. one_if (p (nth_entry es i)) (reason i))

-- ---- what may be held

abbrev pub is_in : Phase → MaySlot → Bool
is_in Phase.Present s = is_surely_present s
is_in Phase.Unpacked s = is_surely_unpacked s
is_in Phase.Configured s = is_surely_configured s

-- the variants that a slot may hold
abbrev pub held : MaySlot → Bits
held MayAbsent = λ b. false
held (MayUnpacked current last) = current
held (MayConfigured current) = current

unfoldable pub variants_in : Universe → ℕ → Bits → List Variant
variants_in u n set = all_below (variants u n) (λ b. one_if (set b) (variant n b))

unfoldable pub held_in : Universe → Phase → ℕ → MaySlot → List Variant
held_in u phase n s = if is_in phase s then variants_in u n (held s) else []

unfoldable pub held_names : Universe → Phase → May → List Variant
held_names u phase m = all_below (names u) (λ n. held_in u phase n (m.slots n))

unfoldable pub held_members : Universe → List ℕ → May → List Variant
held_members u members m = flat_map (λ n. held_in u Phase.Present n (m.slots n)) members

-- ---- what an instruction goes by

-- the tables are of the universe, and so is what the lane's chroot may hold
pub record IsPlaceOfLane (at : Place) : Type 0 where
  pub tables_are : at.tables.now ≡ at.universe.now
  pub of_lane : IsOfLane at.universe.now at.lane.now at.state.now

abbrev pub of_place : {A : Type 0} → Place → (Universe → Lane → May → A) → A
of_place at f = f at.universe.now at.lane.now (may_of at.state.now)

abbrev pub Lists : {A : Type 0} → Result (Vec A) AllocError → List A → Type 0
Lists result items = IfOk result (λ found. found.items ≡ items)
