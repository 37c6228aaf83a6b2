use Rattle.std.proofs.Common.{sym, subst, ◌∙◌}
use Rattle.farm_answers.specs.CertAnswers.{AnswersVerifyCert, IsTextVerdict, TellsCert, Verifies}
use Rattle.farm_answers.proofs.AnswerLaws.{answered-by}
use Rattle.farm_answers.proofs.certificates.answer_verify_cert.Goals as goal
use Rattle.cert_text.specs.CertText.{certificate_of}
use Rattle.plan_reader.specs.TextsView.{texts_view}
use Rattle.plan_verifier.specs.declared.ready.Ready.{Ready}

pub returns : goal.returns
returns g c =
    let same = c.deref-ready.ensures ∙ c.new-kept.ensures in
    let cert = c.args.cert.now in
    let told = c.check_text-verdict.result in
    answered-by (TellsCert c.deref-ready.result.now.planned.plan.lanes told)
    (AnswersVerifyCert cert (texts_view c.args.texts)) _ _ _
    (λ text status is. subst (λ planned. Verifies cert planned text status)
    (sym c.in-Ok.ensures.read) (
      told,
      subst (λ (r : Ready). IsTextVerdict r.planned.universe r.planned.plan.lanes
          (certificate_of r.planned.universe r.planned.plan.lanes cert) told)
          same c.check_text-verdict.ensures,
      subst (λ (r : Ready). TellsCert r.planned.plan.lanes told text status) same is,
    ))
    c.answer_certified.ensures
