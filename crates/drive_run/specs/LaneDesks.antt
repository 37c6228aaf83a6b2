-- Which lane has asked for what. Parameters: d the desks of all lanes, l the number of a lane, n
-- that of an instruction, counted from 1; 0 stands for the lane's chroot.
--
--   request_at d l              what the lane has asked for
--   may_ask d l n               it has asked for nothing, and the instruction is not done
--   asked, posted, taken, withdrawn, stopped   the desks behind a call
use Rattle.std.specs.Prelude.{ℕ, suc, ◌^◌, Bool, true, false, ◌&&◌, ◌==◌, nat_le, List, map, max, Option, Some, None, slice_index_or, slice_set, if◌then◌else◌}
use Rattle.drive_run.specs.declared.desk.LaneDesk.{LaneDesk}
use Rattle.drive_run.specs.declared.desk.Request.{Request}
use Rattle.drive_run.specs.declared.desk.Request.TheVariants.{Idle, Open, Answered}

abbrev pub Desks : Type 0
Desks = List LaneDesk

-- nothing is asked for, and the instructions before this number are done
abbrev pub idle : ℕ → LaneDesk
idle least = record { request = Idle; least = least }

abbrev pub desk_at : Desks → ℕ → LaneDesk
desk_at d l = slice_index_or d l (idle 0)

abbrev pub request_at : Desks → ℕ → Request
request_at d l = (desk_at d l).request

abbrev pub is_idle : Request → Bool
is_idle Idle = true
is_idle _ = false

abbrev pub may_ask : Desks → ℕ → ℕ → Bool
may_ask d l n = is_idle (request_at d l) && nat_le (desk_at d l).least n

abbrev pub with_request : Desks → ℕ → Request → Desks
with_request d l r = slice_set d l (record (desk_at d l) { request = r })

-- the lane asks, if it may
unfoldable pub asked : Desks → ℕ → ℕ → Desks
asked d l n = if may_ask d l n then with_request d l (Open n) else d

-- the lane has asked for this very instruction, and no answer has come
abbrev pub is_open_in : Request → ℕ → Bool
is_open_in (Open k) n = k == n
is_open_in _ n = false

-- an answer comes: done or failed. Where the lane has not asked under that number, it is passed
-- over
unfoldable pub posted : Desks → ℕ → ℕ → Bool → Desks
posted d l n done =
    if is_open_in (request_at d l) n then with_request d l (Answered n done) else d

abbrev pub answer_in : Request → Option Bool
answer_in (Answered n done) = Some done
answer_in _ = None

-- the desk behind its answer: what is done is not asked again, nor what stands before it
abbrev pub read : LaneDesk → Request → LaneDesk
read d (Answered n true) = idle (max d.least (suc n))
read d (Answered n false) = idle d.least
read d _ = d

-- the lane reads its answer
unfoldable pub taken : Desks → ℕ → Desks
taken d l = slice_set d l (read (desk_at d l) (request_at d l))

-- the lane waits no more
unfoldable pub withdrawn : Desks → ℕ → Desks
withdrawn d l = with_request d l Idle

-- nothing more is asked: the number of an instruction is less than this
abbrev pub closed : LaneDesk → LaneDesk
closed d = record d { least = max d.least (2 ^ 32) }

abbrev pub stopped : Desks → Desks
stopped d = map closed d
