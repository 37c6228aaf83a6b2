use Rattle.archive_laws.proofs.OutputReaches.{outputs_reach as law}
use Rattle.archive_laws.proofs.worlds.outputs_reach.Goals as goal

pub returns : goal.returns
returns c = law
