-- What `timeline` and `graph` answer to four texts. The project's own rules. How a timed run and a
-- graph are spelled is tested, and not said here.
--
--   AnswersTimeline     that this text and this status are what `timeline` answers
--   AnswersGraph        the same of `graph`
use Rattle.std.specs.Prelude.{◌≡◌, ℕ, Bool, true, false, List, Result, Ok, Err}
use Rattle.command_line.specs.declared.request.TimelineForm.{TimelineForm}
use Rattle.command_line.specs.declared.request.TimelineForm.TheVariants.{Lines, Bars, Json, Svg}
use Rattle.deb_text.specs.declared.fault.Fault.{Fault}
use Rattle.plan_reader.specs.Input.{Texts}
use Rattle.plan_reader.specs.Planned.{FarmPlan}
use Rattle.plan_verifier.specs.Accepted.{AcceptedPlan}
use Rattle.plan_verifier.specs.Verdict.{IsVerdict, IsVerdictOn}
use Rattle.plan_verifier.specs.declared.refusal.Refusal.{Refusal}
use Rattle.plan_verifier.specs.declared.refusal.Refusal.TheVariants.{Text, Unsafe, Uneven, Stuck, Memory}
use Rattle.farm_answers.specs.Answers.{ShowsVerdict, planned_in}
use Rattle.farm_answers.specs.declared.status.TheConstants.{FINE, REFUSED}

abbrev pub is_json : TimelineForm → Bool
is_json Lines = false
is_json Bars = false
is_json Json = true
is_json Svg = false

-- some text, and this status
abbrev pub IsStatus : ℕ → List ℕ → ℕ → Type 0
IsStatus just text status = status ≡ just

-- the time of an accepted plan, or the refusal as JSON or not
abbrev pub ShowsTime : Bool → Result AcceptedPlan Refusal → List ℕ → ℕ → Type 0
ShowsTime json (Ok a) text status = IsStatus FINE text status
ShowsTime json (Err refusal) text status = ShowsVerdict json (Err refusal) text status

-- `timeline`, whose refusals are JSON or not: that of a verdict on the texts
abbrev pub AnswersTimeline : Bool → Texts → List ℕ → ℕ → Type 0
AnswersTimeline json texts text status =
    (verdict : Result AcceptedPlan Refusal) × IsVerdict (planned_in texts) verdict
    × ShowsTime json verdict text status

-- an accepted plan as a graph, or one whose lanes are stuck; or the refusal
abbrev pub Draws : Bool → Result AcceptedPlan Refusal → List ℕ → ℕ → Type 0
Draws json (Ok a) text status = IsStatus FINE text status
Draws json (Err (Stuck names)) text status = IsStatus REFUSED text status
Draws json (Err (Text fault)) text status = ShowsVerdict json (Err (Text fault)) text status
Draws json (Err (Unsafe name number trap)) text status =
    ShowsVerdict json (Err (Unsafe name number trap)) text status
Draws json (Err (Uneven name number)) text status =
    ShowsVerdict json (Err (Uneven name number)) text status
Draws json (Err Memory) text status = ShowsVerdict json (Err Memory) text status

-- that of a verdict on a plan
abbrev pub DrawsPlan : Bool → FarmPlan → List ℕ → ℕ → Type 0
DrawsPlan json of text status =
    (verdict : Result AcceptedPlan Refusal) × IsVerdictOn of.universe of.plan verdict
    × Draws json verdict text status

-- or the first fault of the texts
abbrev pub DrawsTexts : Bool → Result FarmPlan Fault → List ℕ → ℕ → Type 0
DrawsTexts json (Ok of) text status = DrawsPlan json of text status
DrawsTexts json (Err fault) text status = ShowsVerdict json (Err (Text fault)) text status

-- `graph`, as JSON or not
abbrev pub AnswersGraph : Bool → Texts → List ℕ → ℕ → Type 0
AnswersGraph json texts text status = DrawsTexts json (planned_in texts) text status
