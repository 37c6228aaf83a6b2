use Rattle.deb_relation.proofs.EntryLaws.{read-entries-again}
use Rattle.deb_relation.proofs.laws.entries_are_read_again.Goals as goal

pub returns : goal.returns
returns c = read-entries-again
