use Rattle.archive_laws.proofs.Recorded.{words_are_recorded as law}
use Rattle.archive_laws.proofs.worlds.words_are_recorded.Goals as goal

pub returns : goal.returns
returns c = law
