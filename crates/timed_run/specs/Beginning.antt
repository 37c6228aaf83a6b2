-- Where a timed run begins. The project's own rules.
--
--   Beginning, beginning  a state, and when each lane is free there
--   from_start     the beginning of a plan
--   first_free     when a lane is first free
--   BeginsAt       a lane is first free then
use Rattle.std.specs.Prelude.{◌≡◌, ℕ, List, [], Some, slice_get, slice_index_or}
use Rattle.farm_model.specs.Universe.{Universe}
use Rattle.plan_model.specs.Common.{Plan, State, start}

-- where the lanes stand, and by lane from when on it goes on from there: at once if it is not named.
-- What is under way in a lane is done in the state, and takes the lane's first steps.
pub record Beginning : Type 0 where
  pub state : State
  pub free : List ℕ

abbrev pub beginning : State → List ℕ → Beginning
beginning s free = record { state = s; free = free }

-- the first state of the plan, in which nothing is under way
abbrev pub from_start : Universe → Plan → Beginning
from_start u p = beginning (start u p) []

abbrev pub first_free : Beginning → ℕ → ℕ
first_free b l = slice_index_or b.free l 0

abbrev pub BeginsAt : Beginning → ℕ → Type 0
BeginsAt b time = (l : ℕ) × (slice_get b.free l ≡ Some time)
