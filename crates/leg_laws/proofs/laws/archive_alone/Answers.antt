use Rattle.leg_laws.proofs.ArchiveAlone.{archive_alone as law}
use Rattle.leg_laws.proofs.laws.archive_alone.Goals as goal

pub returns : goal.returns
returns c = law
