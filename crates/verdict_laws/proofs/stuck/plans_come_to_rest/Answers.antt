use Rattle.verdict_laws.proofs.ToRest.{plans_come_to_rest as law}
use Rattle.verdict_laws.proofs.stuck.plans_come_to_rest.Goals as goal

pub returns : goal.returns
returns c = law
