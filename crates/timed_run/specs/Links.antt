-- The parts of the critical path.
--
--   nearest_of     the numbers of events, those nearest before this one first
--   IsInLane       an event before another in its lane, with none between
--   IsLast         an event that ends then
use Rattle.std.specs.Prelude.{◌≡◌, ℕ, suc, ◌-◌, ◌<◌, nat_lt, List, Some, slice_get, if◌then◌else◌}
use Rattle.timed_run.specs.declared.event.Event.{Event}
use Rattle.timed_run.specs.Path.{NoneFrom}

abbrev pub nearest_of : ℕ → ℕ → ℕ
nearest_of number step = if nat_lt step number then number - 1 - step else step

pub record IsInLane (events : List Event) (j k : ℕ) : Type 0 where
  pub ahead : Event
  pub it : Event
  pub at_ahead : slice_get events j ≡ Some ahead
  pub at_it : slice_get events k ≡ Some it
  pub before : j < k
  pub same : ahead.lane ≡ it.lane
  pub none : NoneFrom events it.lane (suc j) k

abbrev pub IsLast : List Event → ℕ → ℕ → Type 0
IsLast events k end = (e : Event) × (slice_get events k ≡ Some e) × (e.end ≡ end)
