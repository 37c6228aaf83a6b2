-- How the lanes of a run ended, in file order. Parameters: ends their ends, code a code, l a lane.
--
--   HasNoEndWith, IsFirstWith  no lane, and the first lane, that ended with the code
--   HaveEnded                no lane is a cause
--   IsCause                  why the run stopped
use Rattle.std.specs.Prelude.{◌≡◌, ◌≢◌, ◌⊎◌, ℕ, ◌<◌, List, length, Some, slice_get}
use Rattle.lane_runner.specs.declared.run.LaneStop.{LaneStop}
use Rattle.lane_runner.specs.declared.run.TheConstants.{GAVE_UP}
use Rattle.farm_executor.specs.declared.causes.TheConstants.{NOT_STARTED}

-- none of the first n lanes ended with the code
abbrev pub HasNoneBelow : ℕ → List LaneStop → ℕ → Type 0
HasNoneBelow code ends n =
    (k : ℕ) (e : LaneStop) → k < n → slice_get ends k ≡ Some e → e.code ≢ code

abbrev pub HasNoEndWith : ℕ → List LaneStop → Type 0
HasNoEndWith code ends = HasNoneBelow code ends (length ends)

-- no lane is a cause
abbrev pub HaveEnded : List LaneStop → Type 0
HaveEnded ends = HasNoEndWith NOT_STARTED ends × HasNoEndWith GAVE_UP ends

pub record IsFirstWith (code : ℕ) (ends : List LaneStop) (l : ℕ) : Type 0 where
  pub there : (e : LaneStop) × (slice_get ends l ≡ Some e) × (e.code ≡ code)
  pub before : HasNoneBelow code ends l

-- a lane that was not started goes before one that gave up
abbrev pub IsCause : List LaneStop → ℕ → ℕ → Type 0
IsCause ends code l =
    ((code ≡ NOT_STARTED) × IsFirstWith NOT_STARTED ends l)
    ⊎ ((code ≡ GAVE_UP) × HasNoEndWith NOT_STARTED ends × IsFirstWith GAVE_UP ends l)
