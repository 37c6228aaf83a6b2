-- What goes to a driver. Parameters: old and new the lines for it before and after, line a line of
-- them, k what is known of the lanes, q what is asked for.
--
--   Outgoing          what the output has taken, and what is left to be written
--   IsAdded           a line is added, and nothing else
--   IsSilent          nothing is
--   IsPut             a question is put
--   IsAtMostPut       it is put, or nothing is asked
--   stand_of          where a lane stands
--   wanted_by         what it asks for at a stage
--   IsStaged          the stage of a lane tells what it has picked
use Rattle.std.specs.Prelude.{◌≡◌, ◌⊎◌, ◌+◌, ◌-◌, ◌^◌, ℕ, false, true, min, List, [], ◌++◌, Option, Some, None}
use Rattle.archive_laws.specs.Records.{Record}
use Rattle.chroot_state.specs.Held.{Held}
use Rattle.drive_run.specs.LaneDesks.{Desks, asked, may_ask}
use Rattle.drive_run.specs.Questions.{Standing, Wanted, noted, number_of, question_text, wanted_at}
use Rattle.drive_run.specs.declared.known.Known.{Known}
use Rattle.drive_run.specs.declared.question.Asked.TheVariants.{Chroot, Unpack, Instruction}
use Rattle.drive_run.specs.declared.stage.Stage.{Stage}
use Rattle.drive_run.specs.declared.stage.Stage.TheVariants.{Closed, Ahead, Unpacked}
use Rattle.farm_model.specs.declared.types.Variant.{Variant}
use Rattle.lane_runner.specs.Calls.{IsPicked}
use Rattle.lane_runner.specs.declared.runner.Runner.{Runner}
use Rattle.plan_verifier.specs.Accepted.{AcceptedPlan}
use Rattle.report_sink.specs.Sinks.{SinkState, IsWritten}

pub record Outgoing : Type 0 where
  pub taken : SinkState
  pub left : List ℕ

abbrev pub outgoing : SinkState → List ℕ → Outgoing
outgoing taken left = record { taken = taken; left = left }

-- all that is left is written, and then the line; or a first part, where the output has failed
pub record IsSent (old new : Outgoing) (line : List ℕ) : Type 0 where
  pub written : IsWritten old.taken new.taken (old.left ++ line)
  pub none_left : new.left ≡ []

-- the line is left to be written after the others, or sent with them
abbrev pub IsAdded : Outgoing → Outgoing → List ℕ → Type 0
IsAdded old new line = (new ≡ outgoing old.taken (old.left ++ line)) ⊎ IsSent old new line

abbrev pub IsSilent : Outgoing → Outgoing → Type 0
IsSilent old new = new ≡ old

-- A question is put, by the desks before and after:
pub record IsPut (k : Known) (q : Wanted) (desks desks' : Desks) (old new : Outgoing) : Type 0 where
  -- its lane may ask for that, and no earlier run has done it;
  pub may : may_ask desks q.place.lane (number_of q) ≡ true
  pub undone : (noted k q).done ≡ false
  -- its line is added,
  pub line : IsAdded old new (question_text k q)
  -- and the lane has asked for it, unless the output has failed.
  pub asks : new.taken.failed ≡ false → desks' ≡ asked desks q.place.lane (number_of q)

abbrev pub IsAtMostPut : Known → Wanted → Desks → Desks → Outgoing → Outgoing → Type 0
IsAtMostPut k q desks desks' old new = IsSilent old new ⊎ IsPut k q desks desks' old new

-- ---- what a lane asks for

-- where it stands with this runner and this chroot, short of the greatest number
abbrev pub stand_of : AcceptedPlan → Runner → Held → Standing
stand_of a w c = record {
  accepted = a;
  chroot = c;
  lane = w.lane;
  instruction = min (w.done + 1) (2 ^ 32 - 1);
}

-- its chroot; what its instruction says; the unpack of what it has picked
abbrev pub wanted_by : Standing → Stage → Option Wanted
wanted_by p Closed = Some (wanted_at p Chroot)
wanted_by p Ahead = Some (wanted_at p Instruction)
wanted_by p (Unpacked n v) = Some (wanted_at (record p { instruction = n }) (Unpack v))
wanted_by p _ = None

abbrev pub IsAtMostAsked : Known → Option Wanted → Desks → Desks → Outgoing → Outgoing → Type 0
IsAtMostAsked k None desks desks' old new = IsSilent old new
IsAtMostAsked k (Some q) desks desks' old new = IsAtMostPut k q desks desks' old new

-- where the stage of a lane of this chroot and this record tells an unpack, it has picked that
abbrev pub IsStaged : AcceptedPlan → ℕ → Held → Record → Stage → Type 0
IsStaged a l c r stage = (n : ℕ) (v : Variant) → stage ≡ Unpacked n v → IsPicked a l n c r v
