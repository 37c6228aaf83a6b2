use Rattle.archive_laws.proofs.OneWord.{each_word_decides as law}
use Rattle.archive_laws.proofs.worlds.each_word_decides.Goals as goal

pub returns : goal.returns
returns c = law
