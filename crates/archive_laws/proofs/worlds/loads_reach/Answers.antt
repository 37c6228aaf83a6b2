use Rattle.archive_laws.proofs.LoadReaches.{loads_reach as law}
use Rattle.archive_laws.proofs.worlds.loads_reach.Goals as goal

pub returns : goal.returns
returns c = law
