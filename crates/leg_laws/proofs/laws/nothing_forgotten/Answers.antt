use Rattle.leg_laws.proofs.Forgotten.{nothing_forgotten as law}
use Rattle.leg_laws.proofs.laws.nothing_forgotten.Goals as goal

pub returns : goal.returns
returns c = law
