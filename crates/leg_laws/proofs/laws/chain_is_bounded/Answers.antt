use Rattle.leg_laws.proofs.Chains.{chain_is_bounded as law}
use Rattle.leg_laws.proofs.laws.chain_is_bounded.Goals as goal

pub returns : goal.returns
returns c = law
