use Rattle.archive_laws.proofs.AllReady.{ends_are_finished as law}
use Rattle.archive_laws.proofs.worlds.ends_are_finished.Goals as goal

pub returns : goal.returns
returns c = law
