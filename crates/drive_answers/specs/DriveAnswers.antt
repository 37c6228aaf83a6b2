-- What `drive` answers: a text and a status, or a line on the error output. The project's own rules.
-- Parameters: a an accepted plan, kept the bytes of its journal, where they are known, old and new
-- the output before and after, before and after the error output.
--
--   Refuses, Finishes    the text and the status of a refusal, and of a run that came to its end
--   TellsStop            the line of a drive that has no end
--   AnswersDrive         what a drive of four texts comes to
--   DrivesTo             what a drive of the texts of files comes to
use Rattle.std.specs.Prelude.{◌≡◌, ◌⊎◌, ℕ, List, [], Option, Some, None, Result, Ok, Err, IfSome}
use Rattle.command_line.specs.declared.request.Paths.{Paths}
use Rattle.drive_answers.specs.DriveLines.{fault_line, misfit_line, open_line, stopped_line, store_line}
use Rattle.drive_journal.specs.HeadText.{Finding, IsFresh, IsKnown, IsMisfit, TextSums, finding, head_text, sums_of}
use Rattle.drive_run.specs.Driven.{IsMisfitIn}
use Rattle.drive_journal.specs.declared.kept.OpenFault.{OpenFault}
use Rattle.drive_journal.specs.declared.start.StoreFault.TheVariants.{Unread, Failed}
use Rattle.farm_answers.specs.Answers.{AnswersVerdict, IsAnswered, UnlessUnread, planned_in}
use Rattle.farm_answers.specs.FarmAnswers.{ShowsEnd}
use Rattle.farm_answers.specs.Files.{AreCalled, AreFilesRead, OnFiles}
use Rattle.farm_answers.specs.declared.fault.OutsideFault.{OutsideFault}
use Rattle.farm_answers.specs.declared.status.TheConstants.{OUTSIDE}
use Rattle.drive_run.specs.declared.office.Fault.{Fault}
use Rattle.farm_executor.specs.FarmRuns.{IsStoppedRun}
use Rattle.plan_reader.specs.Input.{Texts}
use Rattle.lane_runner.specs.declared.run.LaneStop.{LaneStop}
use Rattle.plan_model.specs.Plan.{lane}
use Rattle.plan_verifier.specs.Accepted.{AcceptedPlan}
use Rattle.plan_verifier.specs.Verdict.{IsVerdict}
use Rattle.plan_verifier.specs.declared.refusal.Refusal.{Refusal}
use Rattle.report_sink.specs.Sinks.{SinkState, IsWritten}

-- the texts are refused, as `check` refuses them
abbrev pub Refuses : Texts → List ℕ → ℕ → Type 0
Refuses texts text status =
    (refusal : Refusal) × IsVerdict (planned_in texts) (Err refusal)
    × AnswersVerdict (Err refusal) text status

-- all lanes of their plan, which is accepted, came to their ends
abbrev pub Finishes : Texts → List ℕ → ℕ → Type 0
Finishes texts text status =
    (a : AcceptedPlan) × IsVerdict (planned_in texts) (Ok a) × ShowsEnd a text status

-- ---- a drive that has no end

-- The line of a run that stopped, over a gate that may give up:
pub record TellsLane (a : AcceptedPlan) (line : List ℕ) : Type 0 where
  pub ends : List LaneStop
  pub code : ℕ
  pub number : ℕ
  -- this lane is the cause, by this code
  pub stopped : IsStoppedRun a (Unit {0}) ends code number
  pub line_is : line ≡ stopped_line code (lane a.plan number).name

-- the line of a journal of which one of these lines does not fit
abbrev pub TellsMisfit : (ℕ → Type 0) → List ℕ → Type 0
TellsMisfit Misfits line = (n : ℕ) × Misfits n × (line ≡ misfit_line n)

-- the line of a journal that cannot be opened, read or written
abbrev pub TellsJournal : List ℕ → Type 0
TellsJournal line =
    ((fault : OpenFault) × (line ≡ open_line fault))
    ⊎ (store_line Unread ≡ Some line) ⊎ (store_line Failed ≡ Some line)

-- A lane is the cause; or something outside of the plan failed: the output, the journal, an answer.
abbrev pub TellsRan : AcceptedPlan → List ℕ → Type 0
TellsRan a line = TellsLane a line ⊎ ((fault : Fault) × (line ≡ fault_line fault))

-- The line of a drive that has no end: that; or the journal does not fit, or cannot be used, and
-- nothing is written to the output.
abbrev pub TellsStop : AcceptedPlan → (ℕ → Type 0) → SinkState → SinkState → List ℕ → Type 0
TellsStop a Misfits old new line =
    TellsRan a line ⊎ ((new ≡ old) × (TellsMisfit Misfits line ⊎ TellsJournal line))

-- by what is found of a journal, the first line of it that does not fit: one of its head, or one
-- that the core of the plan cannot follow
abbrev pub IsFirstMisfit : AcceptedPlan → Finding → ℕ → Type 0
IsFirstMisfit a IsFresh n = ⊥
IsFirstMisfit a (IsKnown name lines) n = IsMisfitIn a lines n
IsFirstMisfit a (IsMisfit line) n = n ≡ line

abbrev pub IsMisfitOf : AcceptedPlan → List ℕ → Option (List ℕ) → ℕ → Type 0
IsMisfitOf a head kept n = IfSome kept (λ text. IsFirstMisfit a (finding head text) n)

-- the digests of these texts, and the head of their journals
abbrev pub sums_in : Texts → TextSums
sums_in texts = sums_of texts.packages texts.sources texts.farm texts.plan

abbrev pub head_in : Texts → List ℕ
head_in texts = head_text (sums_in texts)

-- the line of a drive of the plan of these texts, which is accepted
abbrev pub Stops : Texts → Option (List ℕ) → SinkState → SinkState → List ℕ → Type 0
Stops texts kept old new line =
    (a : AcceptedPlan) × IsVerdict (planned_in texts) (Ok a)
    × TellsStop a (IsMisfitOf a (head_in texts) kept) old new line

-- ---- what is told

-- the end, behind what the driver was asked for, of which nothing is said here; or a line to the
-- error output alone, with its status
abbrev pub IsDriveTold : (List ℕ → ℕ → Type 0) → (List ℕ → Type 0) → SinkState → SinkState
    → SinkState → Result ℕ OutsideFault → Type 0
IsDriveTold Ended Stopped new before after told =
    ((asked : SinkState) × IsAnswered Ended asked new told)
    ⊎ ((told ≡ Ok OUTSIDE) × (line : List ℕ) × Stopped line × IsWritten before after line)

-- that, or the refusal alone
abbrev pub IsDriveAnswered : (List ℕ → ℕ → Type 0) → (List ℕ → ℕ → Type 0) → (List ℕ → Type 0)
    → SinkState → SinkState → SinkState → SinkState → Result ℕ OutsideFault → Type 0
IsDriveAnswered Refused Ended Stopped old new before after told =
    IsAnswered Refused old new told ⊎ IsDriveTold Ended Stopped new before after told

abbrev pub AnswersDrive : Texts → Option (List ℕ) → SinkState → SinkState → SinkState → SinkState
    → Result ℕ OutsideFault → Type 0
AnswersDrive texts kept old new before after told =
    IsDriveAnswered (Refuses texts) (Finishes texts) (Stops texts kept old new) old new before after
    told

-- what is known of the journal of a name; where none is named there is nothing in it
abbrev pub kept_in : (List ℕ → Option (List ℕ)) → Option (List ℕ) → Option (List ℕ)
kept_in kept None = Some []
kept_in kept (Some name) = kept name

abbrev pub DrivesTo : (List ℕ → Option (List ℕ)) → Option (List ℕ) → Paths → SinkState → SinkState
    → SinkState → SinkState → Result ℕ OutsideFault → Type 0
DrivesTo held kept paths old new before after told =
    UnlessUnread (AreCalled paths) (new ≡ old)
    (IsDriveAnswered (OnFiles held paths Refuses) (OnFiles held paths Finishes)
    (λ line. (texts : Texts) × AreFilesRead held paths texts × Stops texts kept old new line)
    old new before after told)
    told
