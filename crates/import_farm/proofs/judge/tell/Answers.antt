use Rattle.std.proofs.lemmas.Result.{IfOk-weaker}
use Rattle.import_farm.proofs.judge.tell.Goals as goal

pub returns-clause-farm : goal.returns-clause-farm
returns-clause-farm g c =
    IfOk-weaker c.tell_farm.result _ _
    (λ judgement are. record {
      universe = c.in_ok-universe.universe;
      read = c.in_ok-universe.ensures;
      farm = are;
    }) c.tell_farm.ensures.farm
