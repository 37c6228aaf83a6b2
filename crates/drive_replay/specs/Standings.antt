-- Where the lanes of a run stand, by its journal. Parameters: x a life, f its farm, l the number of a
-- lane.
--
--   place_of x l     how many instructions of the lane are done; what is open is not
--   spent_of x l     what the lane has spent on these
--   passed k f l     the farm where the lane has gone past what nobody is asked for, k instructions
--                    at most
--   rested x         the life where each lane with nothing open has gone past that
--   standing x l     where the lane stands
use Rattle.std.specs.Prelude.{ℕ, zero, suc, ◌-◌, Bool, true, false, ◌&&◌, nat_lt, length, Option, Some, None, is_none, if◌then◌else◌}
use Rattle.std.specs.Option.{option_map, unwrap_or}
use Rattle.drive_replay.specs.Follow.{Life, life}
use Rattle.drive_replay.specs.LaneNotes.{asked_at, note_at}
use Rattle.drive_replay.specs.Onward.{done_in, here, is_wait, moved}
use Rattle.drive_replay.specs.declared.standing.Standing.{Standing}
use Rattle.drive_replay.specs.declared.standing.Standing.TheVariants.{Open, Next, Waits, Ended}
use Rattle.farm_core.specs.Farm.{Farm}
use Rattle.farm_model.specs.Common.{Universe, names, variant, variants}
use Rattle.farm_model.specs.declared.types.Variant.{Variant}
use Rattle.plan_model.specs.Common.{instruction_at, lane, lane_state, unpack_cost}
use Rattle.plan_model.specs.declared.instructions.Instruction.{Instruction}
use Rattle.plan_model.specs.declared.instructions.Instruction.TheVariants.{Unpack, Wait, When}

-- the instruction that is open is the next one
abbrev pub place_by : ℕ → Option ℕ → ℕ
place_by done None = done
place_by done (Some n) = n - 1

abbrev pub place_of : Life → ℕ → ℕ
place_of x l = place_by (done_in x.farm l) (asked_at x.notes l)

abbrev pub is_known : Universe → Variant → Bool
is_known u v = nat_lt v.name (names u) && nat_lt v.bit (variants u v.name)

-- what an unpack with this pick has cost
abbrev pub pick_cost : Universe → Variant → ℕ
pick_cost u v = if is_known u v then unpack_cost u v else 0

-- an unpack was taken with its pick
abbrev pub taken_cost : Universe → Option Instruction → Option ℕ → ℕ
taken_cost u (Some (Unpack name wanted)) (Some b) = pick_cost u (variant name b)
taken_cost u _ _ = 0

-- what is open and was taken
abbrev pub open_cost : Life → ℕ → Option ℕ → ℕ
open_cost x l None = 0
open_cost x l (Some n) =
    taken_cost x.farm.universe (instruction_at x.farm.plan.lanes l (n - 1)) (note_at x.notes l n).pick

abbrev pub spent_of : Life → ℕ → ℕ
spent_of x l = (lane_state x.farm.state l).spent - open_cost x l (asked_at x.notes l)

-- ---- what nobody is asked for

abbrev pub is_quiet : Option Instruction → Bool
is_quiet (Some (Wait e)) = true
is_quiet (Some (When name wanted)) = true
is_quiet _ = false

abbrev pub passed : ℕ → Farm → ℕ → Farm
passed zero f l = f
passed (suc k) f l =
    if is_quiet (here f l) then unwrap_or (option_map (λ g. passed k g l) (moved f l)) f else f

-- its chroot is there, and nothing is open
abbrev pub is_free : Life → ℕ → Bool
is_free x l = (note_at x.notes l 0).done && is_none (asked_at x.notes l)

abbrev pub length_of : Farm → ℕ → ℕ
length_of f l = length (lane f.plan.lanes l).instructions

abbrev pub lane_rested : Life → ℕ → Life
lane_rested x l =
    if is_free x l then life (passed (length_of x.farm l) x.farm l) x.notes else x

-- so many lanes, from this one on
abbrev pub rested_from : ℕ → ℕ → Life → Life
rested_from zero l x = x
rested_from (suc n) l x = rested_from n (suc l) (lane_rested x l)

abbrev pub rested : Life → Life
rested x = rested_from (length x.farm.plan.lanes) 0 x

-- ---- where a lane stands

abbrev pub ahead_of : Option Instruction → ℕ → Standing
ahead_of x n = if is_wait x then Waits n else Next n

abbrev pub standing_at : Life → ℕ → Option Instruction → Standing
standing_at x l None = Ended
standing_at x l (Some i) =
    if (note_at x.notes l 0).done then ahead_of (Some i) (suc (done_in x.farm l)) else Next 0

abbrev pub standing_by : Life → ℕ → Option ℕ → Standing
standing_by x l (Some n) = Open n
standing_by x l None = standing_at x l (here x.farm l)

abbrev pub standing : Life → ℕ → Standing
standing x l = standing_by x l (asked_at x.notes l)
