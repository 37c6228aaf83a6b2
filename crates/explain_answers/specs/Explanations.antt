-- What `explain` answers: a text and a status. What its notes tell is said as data, and that their
-- lines stand in the text; how they are spelled is not said here. The project's own rules.
-- Parameters: texts the four texts, plan the plan that they stand for once it is examined, json
-- whether the answer is JSON, e an explanation.
--
--   AreFaultNotes       the note on a fault of the texts
--   AreNotes            why a verdict on a plan is one
--   IsExplanation       of four texts, a verdict and what explains it
--   Tells               the text and the status of these
--   AnswersExplain      that this text and this status are what `explain` answers
use Rattle.std.specs.Prelude.{◌≡◌, ◌≢◌, ◌⊎◌, ◌==◌, ◌||◌, ◌&&◌, ℕ, Bool, true, false, List, [], ◌∷◌, ◌++◌, Option, Some, None, Result, Ok, Err, IfSome, option_and_then, is_ok, flat_map, codes}
use Rattle.shown_text.specs.Texts.{answer_line, lines_data}
use Rattle.deb_text.specs.Lists.{lists}
use Rattle.deb_text.specs.declared.fault.Fault.{Fault}
use Rattle.deb_text.specs.declared.files.TheConstants.{FARM}
use Rattle.farm_answers.specs.Answers.{IsJust, farm_in, no_status, planned_in, status_of, told_verdict}
use Rattle.farm_answers.specs.Verdicts.{verdict_members}
use Rattle.explain_lanes.specs.LaneNotes.{BeginsAt, unsafe_notes}
use Rattle.explain_lanes.specs.Notes.{NoteFacts, all_facts, nothing_further}
use Rattle.explain_lanes.specs.Stuck.{AreOn, ShowsStuck}
use Rattle.explain_lanes.specs.Waits.{waits_notes}
use Rattle.explain_lanes.specs.declared.note.Note.{Note}
use Rattle.explain_lanes.specs.declared.note.Told.{Told}
use Rattle.plan_reader.specs.Input.{Texts}
use Rattle.plan_reader.specs.Planned.{FarmPlan}
use Rattle.farm_model.specs.Universe.{Universe}
use Rattle.explain_faults.specs.Found.{farm_found, farm_item_line, item_in}
use Rattle.explain_faults.specs.declared.found.FaultFacts.{FaultFacts}
use Rattle.farm_report.specs.VerdictText.{verdict_text}
use Rattle.farm_universe.specs.Before.{before_plan}
use Rattle.farm_universe.specs.declared.error.TheConstants.{TAKEN, UNKNOWN_SOURCE, UNKNOWN_VARIANT, UNSETTLED_BASE}
use Rattle.plan_reader.specs.PlanLines.{lines_of}
use Rattle.plan_verifier.specs.Accepted.{AcceptedPlan}
use Rattle.plan_verifier.specs.Examined.{ExaminedPlan, IsExamined}
use Rattle.plan_verifier.specs.Verdict.{IsVerdictOn}
use Rattle.plan_verifier.specs.declared.refusal.Refusal.{Refusal}
use Rattle.plan_verifier.specs.declared.refusal.Refusal.TheVariants.{Text, Unsafe, Uneven, Stuck, Memory}
use Rattle.serde_json.specs.Data.{Members, object, put}
use Rattle.known_rows.specs.KnownRows.{rows_of}
use Rattle.explain_answers.specs.Facts.{About, OfFarm, OfFault, head_and_text, reasons_data}
use Rattle.explain_answers.specs.declared.explanation.Explanation.{Explanation}
use Rattle.explain_answers.specs.declared.explanation.Notes.{Notes}

-- ---- a fault of the texts

-- one note, on no instruction
abbrev pub fault_note : Fault → NoteFacts
fault_note fault = record { told = Told.Text fault; further = nothing_further; place = None }

-- whether a fault is about an item of the farm text
abbrev pub is_of_item : Fault → Bool
is_of_item fault =
    fault.file == FARM
    && (fault.code == UNKNOWN_VARIANT || (fault.code == UNKNOWN_SOURCE
    || (fault.code == TAKEN || fault.code == UNSETTLED_BASE)))

-- of such a fault that item, and the line at which it begins, where this stands before it
abbrev pub TellsItem : Option Universe → List ℕ → Fault → FaultFacts → Type 0
TellsItem before farm fault about =
    is_of_item fault ≡ true
    → (about.item ≡ item_in (option_and_then (λ u. farm_found u farm fault.code fault.line) before))
    × (about.item_line ≡ farm_item_line farm fault.code fault.line about.item)

-- the note on a fault, what it is about, and no warnings
abbrev pub AreFaultNotes : Option Universe → List ℕ → Fault → Notes → Type 0
AreFaultNotes before farm fault notes =
    (all_facts notes.reasons.items ≡ fault_note fault ∷ []) × (notes.warnings.items ≡ [])
    × TellsItem before farm fault notes.about

-- ---- a verdict on a plan

-- what is unsafe in its lanes, under the greatest known rows
abbrev pub unsafe_in : ExaminedPlan → List NoteFacts
unsafe_in plan = unsafe_notes plan.universe plan.plan (rows_of plan.known) plan.lines.lanes

-- why a plan is refused: what is unsafe, first of all the instruction of the refusal; for what the stuck
-- lanes wait. A fault is no such refusal, and of want of memory nothing is said
abbrev pub IsWhyRefused : ExaminedPlan → Refusal → List NoteFacts → Type 0
IsWhyRefused plan (Text fault) notes = ⊥
IsWhyRefused plan (Unsafe name number trap) notes =
    (notes ≡ unsafe_in plan) × BeginsAt name.items number (Some trap) notes
IsWhyRefused plan (Uneven name number) notes =
    (notes ≡ unsafe_in plan) × BeginsAt name.items number None notes
IsWhyRefused plan (Stuck names) notes =
    ShowsStuck plan.universe plan.plan plan.lines.lanes notes × AreOn (lists names.items) notes
IsWhyRefused plan Memory notes = Unit {0}

-- why a verdict is one: that, or for what each wait of an accepted plan waits
abbrev pub IsWhy : {A : Type 0} → ExaminedPlan → Result A Refusal → List NoteFacts → Type 0
IsWhy plan (Ok a) notes = notes ≡ waits_notes plan.universe plan.plan plan.lines.lanes
IsWhy plan (Err refusal) notes = IsWhyRefused plan refusal notes

-- the notes say that; of the warnings nothing is said
abbrev pub AreNotes : {A : Type 0} → ExaminedPlan → Result A Refusal → Notes → Type 0
AreNotes plan verdict notes = IsWhy plan verdict (all_facts notes.reasons.items)

-- what notes are on: the farm of an accepted plan, or that of a refused one, or a text that is
-- refused for this
abbrev pub subject_of : Result AcceptedPlan Refusal → Option ExaminedPlan → FaultFacts → About
subject_of (Ok a) refused about = OfFarm (record { universe = a.universe; plan = a.plan })
subject_of (Err refusal) (Some plan) about = OfFarm (farm_in plan)
subject_of (Err refusal) None about = OfFault about

-- ---- an explanation

-- the verdict on a plan, which is not want of memory, and the notes on it, unless memory was
-- refused behind it
abbrev pub IsExplained : ExaminedPlan → Explanation → Type 0
IsExplained plan e =
    IsVerdictOn plan.universe plan.plan e.verdict × (e.verdict ≢ Err Memory)
    × IfSome e.notes
    (λ notes. (subject_of e.verdict e.refused notes.about ≡ OfFarm (farm_in plan))
    × AreNotes plan e.verdict notes)

-- by the lines of the plan's text; or the first fault of the texts and the notes on it, unless
-- memory was refused behind it
abbrev pub Explains : Texts → Result FarmPlan Fault → Explanation → Type 0
Explains texts (Ok of) e =
    (plan : ExaminedPlan) × IsExamined plan × (farm_in plan ≡ of)
    × (plan.lines ≡ lines_of texts.plan) × IsExplained plan e
Explains texts (Err fault) e =
    (e.verdict ≡ Err (Text fault))
    × IfSome e.notes
    (λ notes. (subject_of e.verdict e.refused notes.about ≡ OfFault notes.about)
    × AreFaultNotes (before_plan texts.packages texts.sources texts.farm) texts.farm fault notes)

-- of what the texts stand for
abbrev pub IsExplanation : Texts → Explanation → Type 0
IsExplanation texts e = Explains texts (planned_in texts) e

-- ---- the answer

-- the lines of notes, of the first without the line of a refusal, which is the verdict's own
abbrev pub note_lines : List Note → List ℕ
note_lines [] = []
note_lines (first ∷ more) = first.text.items ++ flat_map head_and_text more

-- a verdict with the notes that explain it, and the lines of the warnings
abbrev pub explained_members : Explanation → Notes → Members
explained_members e notes =
    put (codes "reasons")
    (reasons_data (subject_of e.verdict e.refused notes.about) notes.reasons.items)
    (put (codes "warnings") (lines_data notes.warnings.items) (verdict_members e.verdict))

-- as JSON the object of these; else their lines
abbrev pub explained_text : Bool → Explanation → Notes → List ℕ
explained_text true e notes = answer_line (object (explained_members e notes))
explained_text false e notes =
    verdict_text e.verdict ++ (note_lines notes.reasons.items ++ notes.warnings.items)

-- the text of the notes that there are
abbrev pub Shows : Bool → Explanation → List ℕ → Type 0
Shows json e text =
    (notes : Notes) × (e.notes ≡ Some notes) × (text ≡ explained_text json e notes)

-- a verdict with its notes, and the verdict's status; or the verdict alone, where memory is refused
-- behind it
abbrev pub Tells : Bool → Explanation → List ℕ → ℕ → Type 0
Tells json e text status =
    (Shows json e text × (status ≡ status_of (is_ok e.verdict)))
    ⊎ IsJust (told_verdict json e.verdict) no_status text status

-- `explain`, as JSON or not
abbrev pub AnswersExplain : Bool → Texts → List ℕ → ℕ → Type 0
AnswersExplain json texts text status =
    (e : Explanation) × IsExplanation texts e × Tells json e text status
