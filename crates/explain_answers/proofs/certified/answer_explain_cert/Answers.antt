use Rattle.std.proofs.Common.{rules, Ok, refl, ap, sym, subst, ◌∙◌}
use Rattle.farm_answers.specs.Answers.{IsJust, status_of}
use Rattle.farm_answers.proofs.AnswerLaws.{answered-by}
use Rattle.plan_reader.specs.TextsView.{texts_view}
use Rattle.farm_report.specs.CertText.{cert_text}
use Rattle.plan_verifier.specs.declared.ready.Ready.{Ready}
use Rattle.explain_answers.specs.CertExplained.{AnswersExplainCert, ExplainsCert}
use Rattle.explain_answers.proofs.certified.answer_explain_cert.Goals as goal

pub returns : goal.returns
returns g c =
    let cert = c.args.cert.now in
    let told = c.check_text-verdict.result in
    answered-by (IsJust c.as_slice.result.now c.status_of.result)
    (AnswersExplainCert cert (texts_view c.args.texts)) _ _ _
    (λ text status is. subst (λ of. ExplainsCert cert of text status) (sym c.in-Ok.ensures.read)
    (subst (λ (r : Ready). ExplainsCert cert (Ok (record {
      universe = r.planned.universe;
      plan = r.planned.plan.lanes;
    })) text status)
    (c.deref-ready.ensures ∙ c.new-kept.ensures) (
      cert_text c.deref-ready.result.now.planned.plan.lanes told,
      c.in_ok-text.ensures.0,
      (
        told,
        c.check_text-verdict.ensures,
        (
          search rules,
          refl,
          is.1 ∙ c.status_of.ensures ∙ ap status_of c.is_ok.ensures.value,
        ),
      ),
      is.0 ∙ c.as_slice.ensures.value ∙ c.in_ok-text.ensures.1,
    )))
    c.write_answer.ensures
