use Rattle.plan_verifier.proofs.OneVerdict.{refusals_are_right as law}
use Rattle.plan_verifier.proofs.laws.refusals_are_right.Goals as goal

pub returns : goal.returns
returns c = law
