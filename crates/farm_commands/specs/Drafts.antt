-- What is answered where a plan is drafted. The project's own rules.
--
--   TellsDraft      the text and the status of what drafting comes to
--   AnswersDraft    that this text and this status are answered to a sketch, the last of the texts
--   AnswersLanes    the same of a number of lanes
use Rattle.std.specs.Prelude.{◌≡◌, ℕ, Bool, List, [], Err}
use Rattle.draft_plan.specs.Drafted.{AnswersNumber, AnswersSketch}
use Rattle.draft_plan.specs.declared.drafted.Drafted.{Drafted}
use Rattle.draft_plan.specs.declared.drafted.Drafted.TheVariants.{Plan as PlanText, Refused, Wrong, Failed}
use Rattle.plan_reader.specs.Input.{Texts}
use Rattle.farm_universe.specs.UniverseText.{universe_of}
use Rattle.plan_verifier.specs.declared.refusal.Refusal.TheVariants.{Text}
use Rattle.farm_answers.specs.Answers.{TellsVerdict, planned_in}
use Rattle.farm_answers.specs.declared.status.TheConstants.{FINE, OUTSIDE, REFUSED}

-- a plan, or lines on why there is none; a fault of the texts is told as a verdict tells it; and of
-- a plan that does not stand nothing
abbrev pub TellsDraft : Drafted → List ℕ → ℕ → Type 0
TellsDraft (PlanText plan left told end) text status = (text ≡ plan.items) × (status ≡ FINE)
TellsDraft (Refused lines) text status = (text ≡ lines.items) × (status ≡ REFUSED)
TellsDraft (Wrong fault) text status = TellsVerdict (Err (Text fault)) text status
TellsDraft Failed text status = (text ≡ []) × (status ≡ OUTSIDE)

-- `draft` by a sketch
abbrev pub AnswersDraft : (rest partial : Bool) → Texts → List ℕ → ℕ → Type 0
AnswersDraft rest partial texts text status =
    (drafted : Drafted) × AnswersSketch texts rest partial (planned_in texts) drafted
    × TellsDraft drafted text status

-- `draft` by a number of lanes
abbrev pub AnswersLanes : (lanes : ℕ) → (partial : Bool) → Texts → List ℕ → ℕ → Type 0
AnswersLanes lanes partial texts text status =
    (drafted : Drafted)
    × AnswersNumber texts lanes partial (universe_of texts.packages texts.sources texts.farm)
    drafted × TellsDraft drafted text status
