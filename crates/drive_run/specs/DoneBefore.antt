-- What an earlier run has done. Parameters: p a plan, notes what the journal of that run notes, d
-- the desks of all lanes, l the number of a lane, n that of an instruction, counted from 1; 0
-- stands for the lane's chroot.
--
--   IsDoneBefore     the journal notes an instruction of the plan as done
--   AreBelow         each of those is below the least number that its lane may ask for
--   AreNeverAsked    no calls let a lane ask for one of them
use Rattle.std.specs.Prelude.{◌≡◌, ◌<◌, ◌≤◌, ℕ, true, false, List, length, map, fold, slice_index_or}
use Rattle.drive_replay.specs.LaneNotes.{LaneNotes, note_at}
use Rattle.drive_run.specs.LaneDesks.{Desks, may_ask}
use Rattle.drive_run.specs.Laws.{Call, behind}
use Rattle.drive_run.specs.declared.known.LaneWords.{LaneWords}
use Rattle.plan_model.specs.Plan.{Plan, lane}

abbrev pub IsDoneBefore : Plan → LaneNotes → ℕ → ℕ → Type 0
IsDoneBefore p notes l n =
    (l < length p) × (n ≤ length (lane p l).instructions) × ((note_at notes l n).done ≡ true)

-- the least numbers that lanes may ask for
abbrev pub leasts : List LaneWords → List ℕ
leasts words = map (λ (w : LaneWords). w.least) words

abbrev pub AreBelow : Plan → LaneNotes → List LaneWords → Type 0
AreBelow p notes words =
    (l n : ℕ) → IsDoneBefore p notes l n → n < slice_index_or (leasts words) l 0

abbrev pub AreNeverAsked : Plan → LaneNotes → Desks → Type 0
AreNeverAsked p notes d =
    (l n : ℕ) (calls : List Call) → IsDoneBefore p notes l n
    → may_ask (fold behind d calls) l n ≡ false
