use Rattle.archive_laws.proofs.Bounded.{loads_are_in_bounds as law}
use Rattle.archive_laws.proofs.laws.loads_are_in_bounds.Goals as goal

pub returns : goal.returns
returns c = law
