use Rattle.archive_laws.proofs.AfterSteps.{lanes_stand_after_steps as law}
use Rattle.archive_laws.proofs.worlds.lanes_stand_after_steps.Goals as goal

pub returns : goal.returns
returns c = law
