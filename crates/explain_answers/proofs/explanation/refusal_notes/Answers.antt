use Rattle.std.proofs.Common.{Err, subst, sym}
use Rattle.plan_model.specs.Safety.{Meets, Parts}
use Rattle.plan_verifier.specs.Verdict.{IsVerdictOn}
use Rattle.explain_lanes.specs.Notes.{all_facts}
use Rattle.explain_answers.specs.Explanations.{IsWhyRefused}
use Rattle.explain_answers.proofs.ExplainLaws.{begins_at}
use Rattle.explain_answers.proofs.explanation.refusal_notes.Goals as goal

pub returns-in-Unsafe : goal.returns-in-Unsafe
returns-in-Unsafe c =
    let plan = c.args.examined.now in
    let notes = all_facts c.args.hazards.items in
    subst (λ r. IsWhyRefused plan r notes) (sym c.in-Unsafe.is) (
      c.requires.hazards,
      begins_at plan c.requires.examined notes c.requires.hazards c.in-Unsafe.lane.items
          c.in-Unsafe.instruction (Meets c.in-Unsafe.trap)
          (subst (λ r. IsVerdictOn plan.universe plan.plan (Err r)) c.in-Unsafe.is
          c.requires.refused),
    )

pub returns-in-Uneven : goal.returns-in-Uneven
returns-in-Uneven c =
    let plan = c.args.examined.now in
    let notes = all_facts c.args.hazards.items in
    subst (λ r. IsWhyRefused plan r notes) (sym c.in-Uneven.is) (
      c.requires.hazards,
      begins_at plan c.requires.examined notes c.requires.hazards c.in-Uneven.lane.items
          c.in-Uneven.instruction Parts
          (subst (λ r. IsVerdictOn plan.universe plan.plan (Err r)) c.in-Uneven.is
          c.requires.refused),
    )
