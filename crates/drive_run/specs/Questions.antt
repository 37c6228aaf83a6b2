-- What a lane asks a driver for. Parameters: k what is known of the lanes, q what is asked for, l
-- the number of a lane.
--
--   Standing, standing        where a lane stands, as a value
--   Wanted, wanted            what it asks for there, as a value
--   lane_name, chroot_name    the name of a lane, and that of its base chroot
--   number_of q               under which number it is asked
--   noted k q                 what an earlier journal notes of that
--   question_text k q         its line
--   entry_of k q              the entry that the journal has before
use Rattle.std.specs.Prelude.{ℕ, Bool, true, false, zero, suc, nat_lt, List, [], length, Option, Some, None, slice_get, if◌then◌else◌}
use Rattle.chroot_state.specs.Held.{Held}
use Rattle.deb_text.specs.Lists.{lists}
use Rattle.drive_journal.specs.Entries as journal
use Rattle.drive_protocol.specs.RequestText.{head_text, asked_words, instruction_line, open_line, unpack_line}
use Rattle.drive_replay.specs.LaneNotes.{note_at}
use Rattle.drive_replay.specs.declared.notes.Note.{Note}
use Rattle.drive_run.specs.declared.known.Known.{Known}
use Rattle.drive_run.specs.declared.known.LaneWords.{LaneWords}
use Rattle.drive_run.specs.declared.question.Asked.{Asked}
use Rattle.drive_run.specs.declared.question.Asked.TheVariants.{Chroot, Unpack, Instruction}
use Rattle.drive_run.specs.declared.question.Question.{Question}
use Rattle.farm_model.specs.Common.{base, Universe}
use Rattle.farm_model.specs.Common as farm
use Rattle.farm_model.specs.declared.types.Variant.{Variant}
use Rattle.lane_runner.specs.declared.gate.Place.{Place}
use Rattle.plan_model.specs.Plan.{Plan, instruction_at, lane}
use Rattle.plan_model.specs.declared.instructions.Instruction as plan
use Rattle.plan_reader.specs.Listing.{name_of_number}
use Rattle.plan_reader.specs.Variants.{version_of}
use Rattle.plan_verifier.specs.Accepted.{AcceptedPlan}

-- a lane of an accepted plan with its chroot, ahead of the instruction of this number
pub record Standing : Type 0 where
  pub accepted : AcceptedPlan
  pub chroot : Held
  pub lane : ℕ
  pub instruction : ℕ

pub record Wanted : Type 0 where
  pub place : Standing
  pub asked : Asked

abbrev pub standing : Place → Standing
standing p = record {
  accepted = p.accepted.now;
  chroot = p.chroot.now;
  lane = p.lane;
  instruction = p.instruction;
}

abbrev pub wanted_at : Standing → Asked → Wanted
wanted_at place asked = record { place = place; asked = asked }

abbrev pub wanted : Question → Wanted
wanted q = wanted_at (standing q.place) q.asked

abbrev pub name_in : Option LaneWords → List ℕ
name_in None = []
name_in (Some words) = words.name.items

abbrev pub chroot_in : Option LaneWords → List ℕ
chroot_in None = []
chroot_in (Some words) = words.chroot.items

abbrev pub lane_name : Known → ℕ → List ℕ
lane_name k l = name_in (slice_get k.lanes.items l)

abbrev pub chroot_name : Known → ℕ → List ℕ
chroot_name k l = chroot_in (slice_get k.lanes.items l)

-- 0 stands for the chroot
abbrev pub number_in : Asked → ℕ → ℕ
number_in Chroot n = 0
number_in (Unpack v) n = n
number_in Instruction n = n

abbrev pub number_of : Wanted → ℕ
number_of q = number_in q.asked q.place.instruction

abbrev pub noted : Known → Wanted → Note
noted k q = note_at k.notes q.place.lane (number_of q)

-- asked again where an earlier run has asked for it
abbrev pub head_of : Known → Wanted → List ℕ
head_of k q =
    head_text (noted k q).asked (lane_name k q.place.lane) (number_of q)
    (chroot_name k q.place.lane)

-- what the base chroot of a lane has; nothing of one that is not in the plan
abbrev pub base_packages : AcceptedPlan → ℕ → List Variant
base_packages a l =
    if nat_lt l (length a.plan) then (base a.universe (lane a.plan l).base).packages else []

-- the instruction of this number, counted from 1
abbrev pub instruction_of : Plan → ℕ → ℕ → Option plan.Instruction
instruction_of p l zero = None
instruction_of p l (suc place) = instruction_at p l place

abbrev pub instruction_text : List ℕ → Universe → List (List ℕ) → farm.Chroot
    → Option plan.Instruction → List ℕ
instruction_text head u recipes c None = []
instruction_text head u recipes c (Some x) = instruction_line head (asked_words u recipes c x)

abbrev pub asked_text : Known → Wanted → Asked → List ℕ
asked_text k q Chroot =
    open_line (head_of k q) q.place.accepted.universe
    (base_packages q.place.accepted q.place.lane)
asked_text k q (Unpack v) = unpack_line (head_of k q) q.place.accepted.universe v
asked_text k q Instruction =
    instruction_text (head_of k q) q.place.accepted.universe (lists k.recipes.items)
    q.place.chroot.slots
    (instruction_of q.place.accepted.plan q.place.lane q.place.instruction)

-- the line of a question: of the lane and its chroot, in the words of the plan
unfoldable pub question_text : Known → Wanted → List ℕ
question_text k q = asked_text k q q.asked

-- an unpack is noted with its pick
abbrev pub said_first : Universe → Asked → journal.Note
said_first u (Unpack v) = journal.HasPicked (name_of_number u v.name) (version_of u v)
said_first u Chroot = journal.IsAsked
said_first u Instruction = journal.IsAsked

-- what has failed in an earlier run is asked for once more
abbrev pub said_of : Bool → Universe → Asked → journal.Note
said_of true u asked = journal.IsAskedAgain
said_of false u asked = said_first u asked

abbrev pub entry_of : Known → Wanted → journal.Noted
entry_of k q = record {
  lane = lane_name k q.place.lane;
  number = number_of q;
  note = said_of (noted k q).failed q.place.accepted.universe q.asked;
}
