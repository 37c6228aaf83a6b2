-- The times of a lane in a timed run. Parameters: l the number of the lane, events the run.
--
--   work_of, waits_of  how long its events take, and how long it waits before them
--   told               a time as it is told: at most the greatest number that there is room for
--   lane_time          when its last event ends, and how much of that it is busy and how much it waits
--   time_with          its times behind one event more
--   AreBehind          lanes behind one event more
--   AreLanes           so many lanes, each with its times
use Rattle.std.specs.Prelude.{◌≡◌, ℕ, ◌+◌, ◌-◌, ◌^◌, ◌==◌, min, length, List, Some, slice_get, sum_by, if◌then◌else◌}
use Rattle.timed_run.specs.declared.event.Event.{Event}
use Rattle.timed_run.specs.Timed.{free_at}
use Rattle.timeline.specs.declared.lanes.LaneTime.{LaneTime}
use Rattle.timeline.specs.declared.lanes.LaneFacts.{LaneFacts}

abbrev pub work_of : ℕ → List Event → ℕ
work_of l events = sum_by (λ (e : Event). if e.lane == l then e.end - e.begin else 0) events

abbrev pub waits_of : ℕ → List Event → ℕ
waits_of l events = sum_by (λ (e : Event). if e.lane == l then e.begin - e.free else 0) events

abbrev pub told : ℕ → ℕ
told time = min time (2 ^ 128 - 1)

abbrev pub times_of : ℕ → ℕ → ℕ → LaneTime
times_of end work waits = record { end = end; busy = told work; idle = told waits }

unfoldable pub lane_time : ℕ → List Event → LaneTime
lane_time l events = times_of (free_at 0 l events) (work_of l events) (waits_of l events)

abbrev pub time_with : ℕ → LaneTime → Event → LaneTime
time_with l time e = if e.lane == l
    then record {
      end = e.end;
      busy = told (time.busy + (e.end - e.begin));
      idle = told (time.idle + (e.begin - e.free));
    }
    else time

pub record AreBehind (e : Event) (old new : List LaneFacts) : Type 0 where
  pub long : length new ≡ length old
  pub each : (l : ℕ) (lane : LaneFacts) → slice_get new l ≡ Some lane → (before : LaneFacts)
      × (slice_get old l ≡ Some before) × (lane.time ≡ time_with l before.time e)

pub record AreLanes (events : List Event) (count : ℕ) (lanes : List LaneFacts) : Type 0 where
  pub long : length lanes ≡ count
  pub each : (l : ℕ) (lane : LaneFacts) → slice_get lanes l ≡ Some lane
      → lane.time ≡ lane_time l events
