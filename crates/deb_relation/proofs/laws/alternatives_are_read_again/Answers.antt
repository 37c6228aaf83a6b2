use Rattle.deb_relation.proofs.EntryLaws.{read-alternatives-again}
use Rattle.deb_relation.proofs.laws.alternatives_are_read_again.Goals as goal

pub returns : goal.returns
returns c = read-alternatives-again
