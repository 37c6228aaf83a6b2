-- What `status` answers to a journal and four texts. The project's own rules. Parameters: of what the
-- texts stand for, text and status the answer.
--
--   life_in          the life that a journal leads to, by what is found of it, up to its end, where
--                    another run goes on from it; or its first line that does not fit
--   IsWhyNot         why there is none
--   TellsLife        what is told of that life: some text; of a journal that does not fit none, since
--                    the error output is told
--   AnswersStatus    that this text and this status are what is answered, refusals as JSON or not
use Rattle.std.specs.Prelude.{◌≡◌, ℕ, Bool, List, [], Result, Ok, Err}
use Rattle.deb_text.specs.Lines.{lines_of}
use Rattle.deb_text.specs.declared.fault.Fault.{Fault}
use Rattle.drive_answers.specs.DriveAnswers.{head_in}
use Rattle.drive_journal.specs.Entries.{unended}
use Rattle.drive_journal.specs.HeadText.{Finding, IsFresh, IsKnown, IsMisfit, finding}
use Rattle.drive_replay.specs.Follow.{Life, followed_by}
use Rattle.drive_replay.specs.Following.{IsReached, first_life}
use Rattle.drive_replay.specs.declared.journal.ReplayFault.{ReplayFault}
use Rattle.drive_replay.specs.declared.journal.ReplayFault.TheVariants.{Misfit, Memory}
use Rattle.drive_run.specs.declared.driven.TheConstants.{FIRST_ENTRY}
use Rattle.farm_answers.specs.Answers.{ShowsVerdict, planned_in}
use Rattle.farm_answers.specs.declared.status.TheConstants.{FINE, OUTSIDE}
use Rattle.farm_core.specs.Farm.{Farm}
use Rattle.farm_model.specs.Universe.{Universe}
use Rattle.plan_model.specs.Plan.{Plan, count}
use Rattle.plan_reader.specs.CountedPlan.{CountedPlan}
use Rattle.plan_reader.specs.Input.{Texts}
use Rattle.plan_reader.specs.PlanLines.{PlanLines}
use Rattle.plan_reader.specs.Planned.{FarmPlan}
use Rattle.plan_verifier.specs.Accepted.{AcceptedPlan}
use Rattle.plan_verifier.specs.declared.refusal.Refusal.TheVariants.{Text}

-- where nothing was asked yet there are no entries, and all lanes are at their beginning
abbrev pub life_in : Universe → CountedPlan → Finding → Result Life ℕ
life_in u p IsFresh = followed_by FIRST_ENTRY (first_life u p) (unended (lines_of []))
life_in u p (IsKnown run lines) = followed_by FIRST_ENTRY (first_life u p) (unended lines)
life_in u p (IsMisfit line) = Err line

abbrev pub IsWhyNot : Result Life ℕ → ReplayFault → Type 0
IsWhyNot found (Misfit n) = found ≡ Err n
IsWhyNot found Memory = Unit {0}

-- some text, and all is well
abbrev pub IsFine : List ℕ → ℕ → Type 0
IsFine text status = status ≡ FINE

-- of a journal that is not followed the error output is told
abbrev pub TellsFault : ReplayFault → List ℕ → ℕ → Type 0
TellsFault (Misfit n) text status = (text ≡ []) × (status ≡ OUTSIDE)
TellsFault Memory text status = ⊥

abbrev pub TellsLife : Result Life ℕ → List ℕ → ℕ → Type 0
TellsLife (Ok x) text status = IsFine text status
TellsLife (Err n) text status = (text ≡ []) × (status ≡ OUTSIDE)

-- the plan as a value, whose instructions come from these lines
abbrev pub counted : Universe → Plan → PlanLines → CountedPlan
counted u lanes from = record { lanes = lanes; lines = from; count = count u lanes }

-- a core is of an accepted plan, in a state that a run of it reaches
abbrev pub IsCoreOf : AcceptedPlan → Farm → Type 0
IsCoreOf a f =
    (from : PlanLines) × IsReached a.universe (counted a.universe a.plan from) f

abbrev pub TellsPlan : Universe → Plan → Finding → List ℕ → ℕ → Type 0
TellsPlan u lanes found text status =
    (from : PlanLines) × TellsLife (life_in u (counted u lanes from) found) text status

-- the first fault of the texts is told as a verdict tells it; whether the plan is safe is not asked
abbrev pub TellsStanding : Bool → Finding → Result FarmPlan Fault → List ℕ → ℕ → Type 0
TellsStanding json found (Ok of) text status = TellsPlan of.universe of.plan found text status
TellsStanding json found (Err fault) text status =
    ShowsVerdict json (Err (Text fault)) text status

abbrev pub AnswersStatus : Bool → List ℕ → Texts → List ℕ → ℕ → Type 0
AnswersStatus json journal texts text status =
    TellsStanding json (finding (head_in texts) journal) (planned_in texts) text status
