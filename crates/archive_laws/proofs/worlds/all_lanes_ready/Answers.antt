use Rattle.archive_laws.proofs.AllReady.{all_lanes_ready as law}
use Rattle.archive_laws.proofs.worlds.all_lanes_ready.Goals as goal

pub returns : goal.returns
returns c = law
