-- Walks over the lanes of a plan, each by itself. The project's own words.
--
--   AreWalks     what each of the walks came to, lane by lane
use Rattle.std.specs.Prelude.{◌≡◌, ℕ, List, Some, length, slice_get, Result}
use Rattle.plan_verifier.specs.declared.walk.WalkError.{WalkError}

-- as many walks as lanes, and of each is true what is told of the walk over the lane of its number
pub record AreWalks (Told : ℕ → Result ℕ WalkError → Type 0) (lanes : ℕ)
    (walks : List (Result ℕ WalkError)) : Type 0 where
  pub long : length walks ≡ lanes
  pub each : (l : ℕ) (walk : Result ℕ WalkError) → slice_get walks l ≡ Some walk → Told l walk
