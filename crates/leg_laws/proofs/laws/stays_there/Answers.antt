use Rattle.leg_laws.proofs.Archives.{stays_there as law}
use Rattle.leg_laws.proofs.laws.stays_there.Goals as goal

pub returns : goal.returns
returns c = law
