use Rattle.archive_laws.proofs.Foreseen.{worlds_are_foreseen as law}
use Rattle.archive_laws.proofs.worlds.worlds_are_foreseen.Goals as goal

pub returns : goal.returns
returns c = law
