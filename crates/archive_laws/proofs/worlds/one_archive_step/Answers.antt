use Rattle.archive_laws.proofs.Settles.{each_lane_steps as law}
use Rattle.archive_laws.proofs.worlds.one_archive_step.Goals as goal

pub returns : goal.returns
returns c = law
