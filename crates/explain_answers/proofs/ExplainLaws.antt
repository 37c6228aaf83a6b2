-- What explains a refusal for what is unsafe.
use Rattle.std.proofs.Common.{◌≡◌, ℕ, List, sym, subst}
use Rattle.explain_lanes.proofs.NoteLaws.{notes_begin_with_the_verdict}
use Rattle.explain_lanes.specs.LaneNotes.{BeginsAt}
use Rattle.explain_lanes.specs.Notes.{NoteFacts}
use Rattle.plan_model.specs.Safety.{Hazard}
use Rattle.plan_verifier.specs.Examined.{ExaminedPlan, IsExamined}
use Rattle.plan_verifier.specs.Verdict.{IsRefused}
use Rattle.explain_reasons.specs.Removals.{trap_of}
use Rattle.known_rows.specs.KnownRows.{rows_of}
use Rattle.explain_answers.specs.Explanations.{unsafe_in}

-- the first note is on the instruction of the refusal
pub begins_at : (plan : ExaminedPlan) → IsExamined plan → (notes : List NoteFacts)
    → notes ≡ unsafe_in plan → (name : List ℕ) (number : ℕ) (hazard : Hazard)
    → IsRefused plan.universe plan.plan name number hazard
    → BeginsAt name number (trap_of hazard) notes
begins_at plan is notes are name number hazard refused =
    subst (BeginsAt name number (trap_of hazard)) (sym are)
    (notes_begin_with_the_verdict plan.universe plan.plan (rows_of plan.known) plan.lines.lanes name
    number hazard is.known refused)
