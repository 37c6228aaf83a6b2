-- What rows and may maps foresee of the states that are reached, and what schedules come to. The
-- project's own rules. Parameters: u a universe, p a plan, s a state, l a lane, v a variant.
--
--   IsForeseen, IsWithinBudget     the facts of a state; what its lanes have spent
--   PlaysSafely                    what every schedule comes to
use Rattle.std.specs.Prelude.{◌≡◌, ◌⊎◌, ℕ, ◌<◌, ◌≤◌, true, List, length, None}
use Rattle.farm_model.specs.Universe.{Universe}
use Rattle.farm_model.specs.declared.types.Variant.{Variant}
use Rattle.plan_model.specs.Plan.{Plan, lane, instruction_at}
use Rattle.plan_model.specs.Run.{State, lane_state, archive, result_of}
use Rattle.plan_model.specs.Known.{Rows, possible, publishing, IsFact}
use Rattle.plan_model.specs.Allowed.{AllowsAll}
use Rattle.plan_model.specs.MayAt.{may_at, lane_cost}

-- The four facts of a state that is reached:
pub record IsForeseen (u : Universe) (p : Plan) (rows : Rows) (s : State) : Type 0 where
  -- the archive contains what each lane knows at its place;
  pub known : (l : ℕ) (v : Variant) → l < length p → rows l (lane_state s l).done v ≡ true
      → archive u s.published v ≡ true
  -- it contains the facts of each variant in it, so of every publication made;
  pub facts : (c v : Variant) → archive u s.published c ≡ true → IsFact u p rows c v
      → archive u s.published v ≡ true
  -- it has nothing outside what is possible at a lane's place and the outputs made of the publish
  -- that the lane stands at;
  pub bounded : (l : ℕ) (v : Variant) → l < length p → archive u s.published v ≡ true
      → (possible u p l (lane_state s l).done v ≡ true)
      ⊎ (publishing u (instruction_at p l (lane_state s l).done) (lane_state s l).made v ≡ true)
  -- each chroot is one that the may map of its lane allows.
  pub allowed : (l : ℕ) → l < length p
      → AllowsAll u (may_at u p rows l (lane_state s l).done) (lane_state s l).chroot

-- What a lane spends, in a state that is reached: at most its cost, which is at most its budget.
pub record IsWithinBudget (u : Universe) (p : Plan) (rows : Rows) (s : State) : Type 0 where
  pub spent : (l : ℕ) → l < length p → (lane_state s l).spent ≤ lane_cost u p rows l
  pub cost : (l : ℕ) → l < length p → lane_cost u p rows l ≤ (lane p l).budget

-- No schedule meets a trap.
abbrev pub PlaysSafely : Universe → Plan → Type 0
PlaysSafely u p = (schedule : List ℕ) → (result_of u p schedule).stop ≡ None
