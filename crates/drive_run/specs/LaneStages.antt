-- Where the lanes of a run are. Parameters: s the stages of all lanes, l the number of a lane, st a
-- stage.
--
--   stage_at s l       where a lane is, as it was left
--   seen, stage_of     the same, where those that wait look once the bell has rung
--   with_stage         the stages with another one
--   passed             where a lane goes once what it has asked for is done
--   all_closed         all lanes at their beginning
--   OthersStay         no other lane has moved
--   StaysAtPick        a lane is at a pick only where it was there before
--   IsAtTurn           it is at a pick only where its turn was that
use Rattle.std.specs.Prelude.{◌≡◌, ◌≢◌, ◌⊎◌, ◌==◌, ℕ, List, map, Option, Some, slice_index_or, slice_set, if◌then◌else◌}
use Rattle.drive_run.specs.declared.stage.Stage.{Stage}
use Rattle.drive_run.specs.declared.stage.Stage.TheVariants.{Closed, Ahead, Due, Unpacked, Waiting, Ended}
use Rattle.farm_model.specs.declared.types.Variant.{Variant}
use Rattle.lane_runner.specs.declared.turn.Turn.{Turn}
use Rattle.lane_runner.specs.declared.turn.Turn.TheVariants as turn

-- of each lane, and how often the bell has rung
pub record LaneStages : Type 0 where
  pub lanes : List Stage
  pub rings : ℕ

abbrev pub stage_at : LaneStages → ℕ → Stage
stage_at s l = slice_index_or s.lanes l Ended

-- a lane that waits is due once the bell has rung since it looked
abbrev pub seen : ℕ → Stage → Stage
seen rings (Waiting at) = if at == rings then Waiting at else Due
seen rings st = st

abbrev pub stage_of : LaneStages → ℕ → Stage
stage_of s l = seen s.rings (stage_at s l)

abbrev pub with_stage : LaneStages → ℕ → Stage → LaneStages
with_stage s l st = record s { lanes = slice_set s.lanes l st }

-- its turn comes after what it asks for ahead of that, and its next instruction after all else
abbrev pub passed : Stage → Stage
passed Ahead = Due
passed _ = Ahead

-- all lanes are at their beginning
abbrev pub all_closed : LaneStages → LaneStages
all_closed s = record s { lanes = map (λ stage. Closed) s.lanes }

-- no other lane has moved
abbrev pub OthersStay : ℕ → LaneStages → LaneStages → Type 0
OthersStay l old new = (k : ℕ) → k ≢ l → stage_at new k ≡ stage_at old k

-- Of the stages before and after:
pub record StaysAtPick (l : ℕ) (old new : LaneStages) : Type 0 where
  -- no other lane has moved,
  pub others : OthersStay l old new
  -- and the lane is at a pick only where it was at that before.
  pub own : (n : ℕ) (v : Variant) → stage_at new l ≡ Unpacked n v → stage_at old l ≡ Unpacked n v

-- Of the stages before and after a turn of the lane at the instruction of this number:
pub record IsAtTurn (l number : ℕ) (did : Option Turn) (old new : LaneStages) : Type 0 where
  -- no other lane has moved,
  pub others : OthersStay l old new
  -- and the lane is at a pick only where it was at that before, or has picked it now.
  pub own : (n : ℕ) (v : Variant) → stage_at new l ≡ Unpacked n v
      → (stage_at old l ≡ Unpacked n v) ⊎ ((n ≡ number) × (did ≡ Some (turn.Unpacked v)))
