-- What an accepted plan promises, over every list of lane numbers as the order in which its lanes
-- take turns.
use Rattle.std.specs.Prelude.{◌≡◌, ◌≢◌, ℕ, ◌≤◌, false, List, length}
use Rattle.farm_model.specs.Universe.{Universe}
use Rattle.farm_model.specs.declared.types.Trap.{Trap}
use Rattle.plan_model.specs.Plan.{Plan, count}
use Rattle.plan_model.specs.Run.{State, Moved, Trapped, start, step, Run, is_finished}

-- Every interleaving:
pub record IsSafe (u : Universe) (p : Plan) : Type 0 where
  -- no run ends in a trap;
  pub no_trap : (schedule : List ℕ) (s : State) → Run u p (start u p) schedule s
      → (l : ℕ) (trap : Trap) → step u p s l ≢ Trapped trap
  -- in every unfinished state that is reached, some lane can step, without a trap;
  pub goes_on : (schedule : List ℕ) (s : State) → Run u p (start u p) schedule s
      → is_finished p s ≡ false
      → (l : ℕ) × (next : State) × (step u p s l ≡ Moved next)
  -- no run is longer than the plan's count of events.
  pub bounded : (schedule : List ℕ) (s : State) → Run u p (start u p) schedule s
      → length schedule ≤ count u p
