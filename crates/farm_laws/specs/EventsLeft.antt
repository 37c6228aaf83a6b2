-- Where a lane stands in the middle of its instructions, and how many events are left.
-- Parameters: u the universe, p the plan.
--
--   StandsAt, InPlace     a lane has made fewer outputs than its instruction has events
--   left                  the events that a lane has left
--   InPlaces, left_in     the same of each lane of a plan, and of all its lanes together
use Rattle.std.specs.Prelude.{◌≡◌, ℕ, ◌-◌, ◌<◌, List, length, drop, Option, Some, None, slice_get}
use Rattle.farm_model.specs.Common.{sum_below, Universe}
use Rattle.plan_model.specs.Common.{Plan, lane, events_of, ways, State, lane_state}
use Rattle.plan_model.specs.declared.instructions.Instruction.{Instruction}

-- fewer outputs are made than the instruction has events
abbrev pub StandsAt : Universe → Option Instruction → ℕ → Type 0
StandsAt u None made = made ≡ 0
StandsAt u (Some x) made = made < events_of u x

-- behind so many instructions, with so many outputs made of the next one
abbrev pub InPlace : Universe → List Instruction → (done made : ℕ) → Type 0
InPlace u is done made = StandsAt u (slice_get is done) made

-- the events that a lane has left there
unfoldable pub left : Universe → List Instruction → (done made : ℕ) → ℕ
left u is done made = (ways u (drop done is)).here - made

-- each lane stands at a place
pub record InPlaces (u : Universe) (p : Plan) (s : State) : Type 0 where
  pub long : length s.lanes ≡ length p
  pub each : (k : ℕ) → k < length p
      → InPlace u (lane p k).instructions (lane_state s k).done (lane_state s k).made

-- the events that all lanes have left
unfoldable pub left_in : Universe → Plan → State → ℕ
left_in u p s = sum_below (length p)
    (λ k. left u (lane p k).instructions (lane_state s k).done (lane_state s k).made)
