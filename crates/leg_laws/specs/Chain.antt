-- A chain of runs, each of which goes on where the one before has stopped. The project's own rules.
--
--   Leg, IsLeg             a run over a farm of its own
--   GoesOn                 one leg goes on where another has stopped
--   IsChain                legs, the latest first
--   IsKept                 what a leg has published is there in a later one
--   turns_of, counts_of    the turns of all legs; the most that they may have
use Rattle.std.specs.Prelude.{◌≡◌, ℕ, ◌+◌, true, false, List, [], ◌∷◌, length, Some, slice_get}
use Rattle.farm_model.specs.declared.types.Variant.{Variant}
use Rattle.farm_model.specs.Common.{Universe}
use Rattle.plan_model.specs.Common.{Plan, count, Publication, archive, State, start, Run, IsSound}
use Rattle.leg_laws.specs.Named.{Item, item_of, is_same, is_listed}
use Rattle.leg_laws.specs.Continuation.{IsContinuation}

-- a farm and a plan over it, the lanes that took a turn, one after another, and the state that they
-- came to; ahead of it some variants were brought into the archive by hand, and those that are
-- gone were withdrawn, by this leg or an earlier one
pub record Leg : Type 0 where
  pub universe : Universe
  pub plan : Plan
  pub schedule : List ℕ
  pub state : State
  pub brought : List Item
  pub gone : List Item

-- the plan is what the readers make, and the turns lead to the state
pub record IsLeg (leg : Leg) : Type 0 where
  pub sound : IsSound leg.universe leg.plan
  pub run : Run leg.universe leg.plan (start leg.universe leg.plan) leg.schedule leg.state

-- a leg goes on where the one before has stopped, and what was withdrawn stays so
pub record GoesOn (before leg : Leg) : Type 0 where
  pub continues : IsContinuation before.universe before.state leg.brought leg.gone leg.universe
  pub stays_gone : (item : Item) → is_listed before.gone item ≡ true
      → is_listed leg.gone item ≡ true

-- legs, the latest first
abbrev pub IsChain : List Leg → Type 0
IsChain [] = Unit {0}
IsChain (leg ∷ []) = IsLeg leg
IsChain (leg ∷ before ∷ earlier) = IsLeg leg × GoesOn before leg × IsChain (before ∷ earlier)

-- what the earlier leg has published, and is not withdrawn by then, is in the archive that the later
-- one leaves
abbrev pub IsKept : Leg → Leg → Type 0
IsKept earlier leg =
    (i : ℕ) (a : Publication) → slice_get earlier.state.published i ≡ Some a
    → is_listed leg.gone (item_of earlier.universe a.variant) ≡ false
    → (x : Variant) × (archive leg.universe leg.state.published x ≡ true)
    × (is_same earlier.universe a.variant leg.universe x ≡ true)

-- the turns of all legs
abbrev pub turns_of : List Leg → ℕ
turns_of [] = 0
turns_of (leg ∷ earlier) = length leg.schedule + turns_of earlier

-- the events of all plans
abbrev pub counts_of : List Leg → ℕ
counts_of [] = 0
counts_of (leg ∷ earlier) = count leg.universe leg.plan + counts_of earlier
