use Rattle.std.proofs.Common.{inl, Ok, Err, subst, ◌∙◌}
use Rattle.farm_answers.specs.Answers.{AnswersVerdict, planned_in}
use Rattle.farm_answers.specs.CertAnswers.{AnswersCert, ShowsCert}
use Rattle.farm_answers.proofs.AnswerLaws.{answered-by}
use Rattle.farm_answers.proofs.CertLaws.{certified-by}
use Rattle.farm_answers.proofs.certificates.answer_cert.Goals as goal
use Rattle.plan_reader.specs.TextsView.{texts_view}
use Rattle.plan_verifier.specs.Verdict.{IsVerdict}

pub returns-in-Ok-clause-answer : goal.returns-in-Ok-clause-answer
returns-in-Ok-clause-answer g c =
    certified-by (ShowsCert c.deref.result.now) (AnswersCert (texts_view c.args.texts)) _ _ _
    (λ text status is. (
      Ok c.in-Ok.accepted,
      subst (IsVerdict (planned_in (texts_view c.args.texts))) c.in-Ok.is
          c.check-verdict.ensures.verdict,
      subst (λ accepted. ShowsCert accepted text status)
          (c.deref.ensures ∙ c.new-kept.ensures) is,
    ))
    c.answer_accepted.ensures.answer

pub returns-in-Err-clause-answer : goal.returns-in-Err-clause-answer
returns-in-Err-clause-answer g c =
    inl (answered-by (AnswersVerdict (Err c.in-Err.refusal)) (AnswersCert (texts_view c.args.texts))
    _ _ _
    (λ text status is. (
      Err c.in-Err.refusal,
      subst (IsVerdict (planned_in (texts_view c.args.texts))) c.in-Err.is
          c.check-verdict.ensures.verdict,
      is,
    ))
    c.answer_verdict.ensures)
