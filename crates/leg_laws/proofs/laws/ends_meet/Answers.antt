use Rattle.leg_laws.proofs.Archives.{ends_meet as law}
use Rattle.leg_laws.proofs.laws.ends_meet.Goals as goal

pub returns : goal.returns
returns c = law
