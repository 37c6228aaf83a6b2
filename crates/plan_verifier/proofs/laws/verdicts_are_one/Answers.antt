use Rattle.plan_verifier.proofs.OneVerdict.{verdicts_are_one as law}
use Rattle.plan_verifier.proofs.laws.verdicts_are_one.Goals as goal

pub returns : goal.returns
returns c = law
