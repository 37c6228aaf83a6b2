use Rattle.farm_answers.proofs.CertLaws.{whole-shown, stopped-shown}
use Rattle.farm_answers.proofs.certificates.answer_accepted.Goals as goal

pub returns-in-Ok-clause-answer : goal.returns-in-Ok-clause-answer
returns-in-Ok-clause-answer g c = whole-shown c.args.accepted.now _ _ _ c.in-Ok.ensures

pub returns-in-Err-clause-answer : goal.returns-in-Err-clause-answer
returns-in-Err-clause-answer g c =
    rw c.from.ensures (stopped-shown c.args.accepted.now _ _ c.in-Err.stop c.in-Err.ensures)
