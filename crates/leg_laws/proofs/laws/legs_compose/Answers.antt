use Rattle.leg_laws.proofs.Once.{legs_compose as law}
use Rattle.leg_laws.proofs.laws.legs_compose.Goals as goal

pub returns : goal.returns
returns c = law
