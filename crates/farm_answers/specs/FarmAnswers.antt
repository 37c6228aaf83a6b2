-- What `run` answers: a text and a status, or the line of a lane that could not be started. The
-- project's own rules. Parameters: a an accepted plan, old and new the output before and after,
-- before and after the error output.
--
--   AnswersRun        that this text and this status are what `run` answers
--   StopsRun          that this line tells of a lane that could not be started
--   RunsTo            what a run over the texts of files comes to
use Rattle.std.specs.Prelude.{◌≡◌, ◌⊎◌, ℕ, List, ◌++◌, codes, Option, Result, Ok, Err}
use Rattle.chroot_state.specs.Held.{Held}
use Rattle.command_line.specs.declared.request.Paths.{Paths}
use Rattle.farm_archive.specs.declared.publication.Publication.{Publication}
use Rattle.farm_executor.specs.FarmRuns.{IsFarmRun, IsStoppedRun}
use Rattle.farm_executor.specs.declared.causes.TheConstants.{NOT_STARTED}
use Rattle.plan_reader.specs.Input.{Texts}
use Rattle.farm_report.specs.RunText.{run_text}
use Rattle.lane_runner.specs.declared.run.LaneStop.{LaneStop}
use Rattle.plan_model.specs.Plan.{lane}
use Rattle.plan_verifier.specs.Accepted.{AcceptedPlan}
use Rattle.plan_verifier.specs.Verdict.{IsVerdict}
use Rattle.plan_verifier.specs.declared.refusal.Refusal.{Refusal}
use Rattle.report_sink.specs.Sinks.{SinkState, IsWritten}
use Rattle.farm_answers.specs.Answers.{AnswersVerdict, IsAnswered, UnlessUnread, planned_in}
use Rattle.farm_answers.specs.Files.{AreCalled, AreFilesRead, OnFiles}
use Rattle.farm_answers.specs.declared.fault.OutsideFault.{OutsideFault}
use Rattle.farm_answers.specs.declared.status.TheConstants.{FINE, OUTSIDE}

-- Of an accepted plan, the text of a run in which all its lanes came to their ends:
pub record ShowsEnd (a : AcceptedPlan) (text : List ℕ) (status : ℕ) : Type 0 where
  pub chroots : List Held
  pub spent : List ℕ
  pub history : List Publication
  pub run : IsFarmRun a chroots spent history
  pub text_is : text ≡ run_text a.universe a.plan chroots spent history
  pub status_is : status ≡ FINE

-- the run of an accepted plan, or the refusal
abbrev pub Finishes : Result AcceptedPlan Refusal → List ℕ → ℕ → Type 0
Finishes (Ok a) text status = ShowsEnd a text status
Finishes (Err refusal) text status = AnswersVerdict (Err refusal) text status

-- `run`
abbrev pub AnswersRun : Texts → List ℕ → ℕ → Type 0
AnswersRun texts text status =
    (verdict : Result AcceptedPlan Refusal) × IsVerdict (planned_in texts) verdict
    × Finishes verdict text status

-- the line of a lane that could not be started
abbrev pub stopped_line : List ℕ → List ℕ
stopped_line name = codes "portfarm: stopped 503 lane " ++ (name ++ codes "\n")

-- Of an accepted plan, the line of a run that stopped, over a gate that never gives up:
pub record TellsStop (a : AcceptedPlan) (line : List ℕ) : Type 0 where
  pub ends : List LaneStop
  pub number : ℕ
  -- this is the first lane that could not be started
  pub stopped : IsStoppedRun a ⊥ ends NOT_STARTED number
  pub line_is : line ≡ stopped_line (lane a.plan number).name

-- the line of a run of the plan of these texts, which is accepted
abbrev pub StopsRun : Texts → List ℕ → Type 0
StopsRun texts line =
    (a : AcceptedPlan) × IsVerdict (planned_in texts) (Ok a) × TellsStop a line

-- an answer, or such a line on the error output alone
abbrev pub ComesToEnd : (List ℕ → ℕ → Type 0) → (List ℕ → Type 0) → SinkState → SinkState
    → SinkState → SinkState → Result ℕ OutsideFault → Type 0
ComesToEnd Answers Stops old new before after told =
    IsAnswered Answers old new told
    ⊎ ((new ≡ old) × (told ≡ Ok OUTSIDE) × (line : List ℕ) × Stops line
    × IsWritten before after line)

-- a run of the plan of these files
abbrev pub RunsTo : (List ℕ → Option (List ℕ)) → Paths → SinkState → SinkState → SinkState
    → SinkState → Result ℕ OutsideFault → Type 0
RunsTo held paths old new before after told =
    UnlessUnread (AreCalled paths) (new ≡ old)
    (ComesToEnd (OnFiles held paths AnswersRun)
    (λ line. (texts : Texts) × AreFilesRead held paths texts × StopsRun texts line)
    old new before after told)
    told
