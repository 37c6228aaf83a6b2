use Rattle.leg_laws.proofs.Chains.{chains_compose as law}
use Rattle.leg_laws.proofs.laws.chains_compose.Goals as goal

pub returns : goal.returns
returns c = law
