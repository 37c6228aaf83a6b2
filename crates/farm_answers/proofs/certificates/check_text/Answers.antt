use Rattle.std.proofs.Common.{subst, sym, ◌∙◌, Ok, Err}
use Rattle.std.proofs.lemmas.Result.{err_from_is_err_and}
use Rattle.cert_text.specs.declared.fault.CertFault.TheVariants.{Memory}
use Rattle.farm_answers.specs.CertAnswers.{IsTextVerdict}
use Rattle.farm_answers.proofs.CertLaws.{not_read}
use Rattle.farm_answers.proofs.certificates.check_text.Goals as goal

pub returns-in_err-certificate : goal.returns-in_err-certificate
returns-in_err-certificate g c =
    let e = err_from_is_err_and c.from_residual.result c.from_residual.ensures.1 in
    rw (e.1, e.2) (not_read _ _ _ _ c.in_err-certificate.ensures.certificate)

pub returns-in-Ok : goal.returns-in-Ok
returns-in-Ok g c =
    let planned = c.args.ready.now.planned in
    subst (λ of. IsTextVerdict planned.universe planned.plan.lanes of c.check_by_tables.result)
    (sym c.in_ok-certificate.ensures.certificate)
    (subst
    (λ it. IsTextVerdict planned.universe planned.plan.lanes (Ok it) c.check_by_tables.result)
    (c.deref.ensures ∙ c.new-kept.ensures) c.check_by_tables.ensures.verdict)

pub returns-in-Err : goal.returns-in-Err
returns-in-Err g c =
    let planned = c.args.ready.now.planned in
    subst (λ of. IsTextVerdict planned.universe planned.plan.lanes of (Err Memory))
    (sym c.in_ok-certificate.ensures.certificate) tt
