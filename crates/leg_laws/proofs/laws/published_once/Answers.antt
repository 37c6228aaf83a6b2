use Rattle.leg_laws.proofs.Once.{published_once as law}
use Rattle.leg_laws.proofs.laws.published_once.Goals as goal

pub returns : goal.returns
returns c = law
