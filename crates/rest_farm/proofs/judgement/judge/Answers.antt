use Rattle.std.proofs.lemmas.Result.{IfOk-weaker}
use Rattle.rest_farm.proofs.RestLaws.{judged-refused, judged-rest}
use Rattle.rest_farm.proofs.judgement.judge.Goals as goal

pub returns-in-Ok : goal.returns-in-Ok
returns-in-Ok c =
    IfOk-weaker c.judge_farm.result _ _
    (judged-rest c.args.of c.args.texts.now c.in-Ok.farm c.in-Ok.ensures) c.judge_farm.ensures

pub returns-in-Err : goal.returns-in-Err
returns-in-Err c =
    IfOk-weaker c.refused.result _ _
    (judged-refused c.args.of c.args.texts.now c.in-Err.fault c.in-Err.ensures) c.refused.ensures
