use Rattle.archive_laws.proofs.Safe.{no_trap_within_bounds as law}
use Rattle.archive_laws.proofs.laws.no_trap_within_bounds.Goals as goal

pub returns : goal.returns
returns c = law
