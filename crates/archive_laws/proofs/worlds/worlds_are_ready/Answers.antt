use Rattle.archive_laws.proofs.Foreseen.{worlds_are_ready as law}
use Rattle.archive_laws.proofs.worlds.worlds_are_ready.Goals as goal

pub returns : goal.returns
returns c = law
