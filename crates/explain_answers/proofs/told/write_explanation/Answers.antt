use Rattle.std.proofs.Common.{inl, inr, ap, ◌∙◌}
use Rattle.farm_answers.specs.Answers.{IsJust, no_status, status_of, told_verdict}
use Rattle.farm_answers.proofs.AnswerLaws.{answered-by}
use Rattle.explain_answers.specs.Explanations.{Tells}
use Rattle.explain_answers.proofs.told.write_explanation.Goals as goal

pub returns-in-Ok : goal.returns-in-Ok
returns-in-Ok g c =
    let e = c.args.explanation.now in
    answered-by (IsJust c.as_slice.result.now c.status_of.result) (Tells c.args.json e) _ _ _
    (λ text status is. inl (
      (c.in-Some.notes, c.in-Some.is, is.0 ∙ c.as_slice.ensures.value ∙ c.in-Ok.ensures),
      is.1 ∙ c.status_of.ensures ∙ ap status_of c.is_ok.ensures.value,
    ))
    c.write_answer.ensures

pub returns-in-Err : goal.returns-in-Err
returns-in-Err g c =
    let e = c.args.explanation.now in
    answered-by (IsJust (told_verdict c.args.json e.verdict) no_status) (Tells c.args.json e) _ _ _
    (λ text status is. inr is)
    c.write_alone-in-Err.ensures
