-- What is noted of the instructions of a plan, by lane and number: numbers count from 1, and 0
-- stands for the lane's chroot.
--
--   LaneNotes            the notes of all lanes
--   note_at, asked_at    what is noted of an instruction; what a lane has asked for and is not done
--   with_note, with_asked  the notes with another one
--   now_of               when the next entry was written, in seconds after the run's beginning
--   with_ask, with_pick, with_branch, with_done, with_rank, with_failure, with_again, with_time   the
--                        notes behind an entry
--   no_notes             nothing is noted
use Rattle.std.specs.Prelude.{ℕ, suc, Bool, true, false, List, [], length, map, replicate, Option, Some, None, slice_index_or, slice_set}
use Rattle.std.specs.Option.{unwrap_or}
use Rattle.plan_model.specs.Plan.{Plan}
use Rattle.drive_replay.specs.declared.notes.Note.{Note}

-- of each lane what it has asked for and is not done, and its notes; how many events there are at
-- which the archive was looked at or changed; and when the last entry was written, if times are noted
pub record LaneNotes : Type 0 where
  pub asked : List (Option ℕ)
  pub places : List (List Note)
  pub ranks : ℕ
  pub seconds : Option ℕ

abbrev pub nothing : Note
nothing = record {
  asked = false;
  done = false;
  failed = false;
  since = 0;
  until = 0;
  rank = None;
  pick = None;
  branch = None;
}

abbrev pub note_at : LaneNotes → ℕ → ℕ → Note
note_at n l k = slice_index_or (slice_index_or n.places l []) k nothing

abbrev pub asked_at : LaneNotes → ℕ → Option ℕ
asked_at n l = slice_index_or n.asked l None

abbrev pub placed : List (List Note) → ℕ → ℕ → Note → List (List Note)
placed places l k note = slice_set places l (slice_set (slice_index_or places l []) k note)

abbrev pub with_note : LaneNotes → ℕ → ℕ → Note → LaneNotes
with_note n l k note = record n { places = placed n.places l k note }

abbrev pub with_asked : LaneNotes → ℕ → Option ℕ → LaneNotes
with_asked n l asked = record n { asked = slice_set n.asked l asked }

-- one more event
abbrev pub ranked : LaneNotes → LaneNotes
ranked n = record n { ranks = suc n.ranks }

-- 0 where no time is noted
abbrev pub now_of : LaneNotes → ℕ
now_of n = unwrap_or n.seconds 0

-- ---- what the entries of a journal say

abbrev pub with_ask : LaneNotes → ℕ → ℕ → LaneNotes
with_ask n l k =
    with_asked (with_note n l k (record (note_at n l k) { asked = true; since = now_of n })) l (Some k)

abbrev pub with_pick : LaneNotes → ℕ → ℕ → ℕ → LaneNotes
with_pick n l k b =
    ranked (with_asked (with_note n l k (record (note_at n l k) {
      asked = true;
      since = now_of n;
      pick = Some b;
      rank = Some n.ranks;
    })) l (Some k))

abbrev pub with_branch : LaneNotes → ℕ → ℕ → Bool → LaneNotes
with_branch n l k first =
    ranked (with_note n l k (record (note_at n l k) {
      branch = Some first;
      rank = Some n.ranks;
    }))

abbrev pub with_done : LaneNotes → ℕ → ℕ → LaneNotes
with_done n l k =
    with_asked (with_note n l k (record (note_at n l k) {
      done = true;
      failed = false;
      until = now_of n;
    })) l None

abbrev pub with_failure : LaneNotes → ℕ → ℕ → LaneNotes
with_failure n l k = with_note n l k (record (note_at n l k) { failed = true })

abbrev pub with_again : LaneNotes → ℕ → ℕ → LaneNotes
with_again n l k = with_note n l k (record (note_at n l k) { failed = false; since = now_of n })

abbrev pub with_time : LaneNotes → ℕ → LaneNotes
with_time n seconds = record n { seconds = Some seconds }

-- a publish is an event
abbrev pub with_rank : LaneNotes → ℕ → ℕ → LaneNotes
with_rank n l k = ranked (with_note n l k (record (note_at n l k) { rank = Some n.ranks }))

-- ---- no entry

abbrev pub no_notes : Plan → LaneNotes
no_notes p = record {
  asked = map (λ of. None) p;
  places = map (λ of. replicate (suc (length of.instructions)) nothing) p;
  ranks = 0;
  seconds = None;
}
