use Rattle.leg_laws.proofs.Once.{goes_on_safely as law}
use Rattle.leg_laws.proofs.laws.goes_on_safely.Goals as goal

pub returns : goal.returns
returns c = law
