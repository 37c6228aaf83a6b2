use Rattle.archive_laws.proofs.Turns.{start_is_reached as law}
use Rattle.archive_laws.proofs.worlds.start_is_reached.Goals as goal

pub returns : goal.returns
returns c = law
