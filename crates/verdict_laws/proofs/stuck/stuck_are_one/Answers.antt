use Rattle.verdict_laws.proofs.StuckOne.{stuck_are_one as law}
use Rattle.verdict_laws.proofs.stuck.stuck_are_one.Goals as goal

pub returns : goal.returns
returns c = law
