-- What the commands answer to four texts: a text and a status. The project's own rules.
--
--   AnswersCheck, AnswersListing, AnswersStep, AnswersStepBy
--                                  that this text and this status are what a command answers
--   IsAnswered                     an answer is written to a sink, and its status is told
--   UnlessUnread                   what is so unless a file or standard input cannot be read
--   IsReadFault                    what ends a command whose files or input cannot be read
use Rattle.std.specs.Prelude.{◌≡◌, ◌≢◌, ℕ, ◌^◌, Bool, true, false, List, [], length, Option, Result, Ok, Err, if◌then◌else◌}
use Rattle.std.specs.Option.{is_none}
use Rattle.std.specs.Result.{is_ok}
use Rattle.deb_text.specs.declared.fault.Fault.{Fault}
use Rattle.farm_core.specs.Endings.{ended}
use Rattle.farm_core.specs.Farm.{Farm}
use Rattle.farm_core.specs.declared.schedule.Stop.{Stop}
use Rattle.plan_reader.specs.Input.{Texts}
use Rattle.farm_model.specs.Universe.{Universe}
use Rattle.farm_report.specs.StateText.{step_text}
use Rattle.farm_report.specs.VerdictText.{verdict_text}
use Rattle.plan_reader.specs.Listing.{listing_of}
use Rattle.farm_answers.specs.Numbered.{numbered_listing_of}
use Rattle.plan_reader.specs.PlanLines.{lines_of}
use Rattle.plan_model.specs.Common.{Plan, result_of}
use Rattle.plan_verifier.specs.Accepted.{AcceptedPlan}
use Rattle.plan_verifier.specs.declared.refusal.Refusal.{Refusal}
use Rattle.plan_verifier.specs.declared.refusal.Refusal.TheVariants.{Text, Memory}
use Rattle.plan_reader.specs.Planned.{FarmPlan, planned_of}
use Rattle.plan_verifier.specs.Examined.{ExaminedPlan}
use Rattle.plan_verifier.specs.Verdict.{IsVerdict}
use Rattle.report_sink.specs.Sinks.{SinkState, IsWritten}
use Rattle.farm_answers.specs.declared.fault.OutsideFault.{OutsideFault}
use Rattle.farm_answers.specs.declared.fault.OutsideFault.TheVariants.{CannotRead, OutOfMemory, CutShort, BadSchedule, WriteFailed}
use Rattle.farm_answers.specs.declared.status.TheConstants.{FINE, REFUSED, WRONG_WORDS}
use Rattle.farm_answers.specs.Turns.{PlacedWord, turns_of}
use Rattle.farm_answers.specs.Verdicts.{check_line}

-- what four texts stand for, or their first fault
abbrev pub planned_in : Texts → Result FarmPlan Fault
planned_in texts = planned_of texts.packages texts.sources texts.farm texts.plan

-- the universe and the plan of which a verdict is asked
abbrev pub farm_in : ExaminedPlan → FarmPlan
farm_in e = record { universe = e.universe; plan = e.plan }

abbrev pub status_of : Bool → ℕ
status_of fine = if fine then FINE else REFUSED

-- a verdict as JSON or not
abbrev pub told_verdict : Bool → Result AcceptedPlan Refusal → List ℕ
told_verdict true verdict = check_line verdict
told_verdict false verdict = verdict_text verdict

-- the text and the status of this verdict
abbrev pub TellsVerdict : Result AcceptedPlan Refusal → List ℕ → ℕ → Type 0
TellsVerdict verdict text status = (text ≡ verdict_text verdict)
    × (status ≡ status_of (is_ok verdict))

-- the same, of a verdict that is not want of memory
abbrev pub AnswersVerdict : Result AcceptedPlan Refusal → List ℕ → ℕ → Type 0
AnswersVerdict verdict text status = (verdict ≢ Err Memory) × TellsVerdict verdict text status

-- the same as JSON or not
abbrev pub ShowsVerdict : Bool → Result AcceptedPlan Refusal → List ℕ → ℕ → Type 0
ShowsVerdict json verdict text status =
    (verdict ≢ Err Memory) × (text ≡ told_verdict json verdict)
    × (status ≡ status_of (is_ok verdict))

-- `check`, as JSON or not: those of a verdict on the texts
abbrev pub AnswersCheck : Bool → Texts → List ℕ → ℕ → Type 0
AnswersCheck json texts text status =
    (verdict : Result AcceptedPlan Refusal) × IsVerdict (planned_in texts) verdict
    × ShowsVerdict json verdict text status

-- the listing of a plan, or the first fault of the texts, told as a verdict tells it
abbrev pub Lists : Result FarmPlan Fault → List ℕ → ℕ → Type 0
Lists (Ok of) text status = (text ≡ listing_of of.universe of.plan) × (status ≡ FINE)
Lists (Err fault) text status = TellsVerdict (Err (Text fault)) text status

-- `list`
abbrev pub AnswersList : Texts → List ℕ → ℕ → Type 0
AnswersList texts text status = Lists (planned_in texts) text status

-- the same with the lines of the plan's text
abbrev pub ListsLines : List ℕ → Result FarmPlan Fault → List ℕ → ℕ → Type 0
ListsLines plan (Ok of) text status =
    (text ≡ numbered_listing_of of.universe of.plan (lines_of plan)) × (status ≡ FINE)
ListsLines plan (Err fault) text status = TellsVerdict (Err (Text fault)) text status

-- `list --number`
abbrev pub AnswersNumbered : Texts → List ℕ → ℕ → Type 0
AnswersNumbered texts text status = ListsLines texts.plan (planned_in texts) text status

-- `list`, with numbers or without
abbrev pub AnswersListing : Bool → Texts → List ℕ → ℕ → Type 0
AnswersListing true texts text status = AnswersNumbered texts text status
AnswersListing false texts text status = AnswersList texts text status

-- Of a schedule over a plan, how it ended and the state that it led to; its status tells whether it
-- met no trap:
pub record ShowsRun (u : Universe) (p : Plan) (schedule : List ℕ) (text : List ℕ) (status : ℕ)
    : Type 0 where
  pub farm : Farm
  pub stop : Option Stop
  pub about : (farm.universe ≡ u) × (farm.plan.lanes ≡ p)
  pub ending : ended farm.state stop ≡ result_of u p schedule
  pub text_is : text ≡ step_text farm stop (length schedule)
  pub status_is : status ≡ status_of (is_none stop)

-- that, or the first fault of the texts
abbrev pub Steps : List ℕ → Result FarmPlan Fault → List ℕ → ℕ → Type 0
Steps schedule (Ok of) text status = ShowsRun of.universe of.plan schedule text status
Steps schedule (Err fault) text status = TellsVerdict (Err (Text fault)) text status

-- `step`
abbrev pub AnswersStep : List ℕ → Texts → List ℕ → ℕ → Type 0
AnswersStep schedule texts text status = Steps schedule (planned_in texts) text status

-- what a schedule of a file comes to; of a file that has none no text, and its status
abbrev pub TakesTurns : FarmPlan → Result (List ℕ) PlacedWord → List ℕ → ℕ → Type 0
TakesTurns of (Ok schedule) text status = ShowsRun of.universe of.plan schedule text status
TakesTurns of (Err word) text status = (text ≡ []) × (status ≡ WRONG_WORDS)

-- that, or the first fault of the texts
abbrev pub StepsBy : List ℕ → Result FarmPlan Fault → List ℕ → ℕ → Type 0
StepsBy list (Ok of) text status = TakesTurns of (turns_of of.plan list) text status
StepsBy list (Err fault) text status = TellsVerdict (Err (Text fault)) text status

-- `step` with a file of lanes
abbrev pub AnswersStepBy : List ℕ → Texts → List ℕ → ℕ → Type 0
AnswersStepBy list texts text status = StepsBy list (planned_in texts) text status

-- this text and this status, and no others
abbrev pub IsJust : List ℕ → ℕ → List ℕ → ℕ → Type 0
IsJust just fine text status = (text ≡ just) × (status ≡ fine)

-- no program ends with a number as great
abbrev pub no_status : ℕ
no_status = 2 ^ 8

-- Where a status is told, the text of its answer is written whole; where the sink fails, a first
-- part of it. Where memory is refused, nothing is written. Where memory is refused behind a text,
-- that is one which stands for no status; and a schedule that is none is an answer without a text,
-- whose status is that of wrong words. Nothing is read, so no name is told that cannot be.
abbrev pub IsAnswered : (List ℕ → ℕ → Type 0) → SinkState → SinkState → Result ℕ OutsideFault
    → Type 0
IsAnswered Answers old new (Ok status) =
    (text : List ℕ) × Answers text status × IsWritten old new text × (new.failed ≡ false)
IsAnswered Answers old new (Err WriteFailed) =
    (text : List ℕ) × (status : ℕ) × Answers text status × IsWritten old new text
    × (new.failed ≡ true)
IsAnswered Answers old new (Err CutShort) =
    (text : List ℕ) × Answers text no_status × IsWritten old new text × (new.failed ≡ false)
IsAnswered Answers old new (Err (BadSchedule note)) = Answers [] WRONG_WORDS × (new ≡ old)
IsAnswered Answers old new (Err OutOfMemory) = new ≡ old
IsAnswered Answers old new (Err (CannotRead unread)) = ⊥

-- where it is told that a name cannot be read, that is one of these, and nothing is written; else
-- what is told is so
abbrev pub UnlessUnread : (List ℕ → Type 0) → Type 0 → Type 0 → Result ℕ OutsideFault → Type 0
UnlessUnread Names Same Else (Ok status) = Else
UnlessUnread Names Same Else (Err (CannotRead unread)) = Names unread.name.now × Same
UnlessUnread Names Same Else (Err OutOfMemory) = Else
UnlessUnread Names Same Else (Err CutShort) = Else
UnlessUnread Names Same Else (Err (BadSchedule note)) = Else
UnlessUnread Names Same Else (Err WriteFailed) = Else

-- the fault of one of these names, of a file or standard input, or of memory
abbrev pub IsReadFault : (List ℕ → Type 0) → OutsideFault → Type 0
IsReadFault Names (CannotRead unread) = Names unread.name.now
IsReadFault Names OutOfMemory = Unit {0}
IsReadFault Names CutShort = ⊥
IsReadFault Names (BadSchedule note) = ⊥
IsReadFault Names WriteFailed = ⊥
