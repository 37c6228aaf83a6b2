use Rattle.deb_version.proofs.RunsUnique.{cuts_into_runs}
use Rattle.deb_version.proofs.laws.parts_are_runs.Goals as goal

pub returns : goal.returns
returns c = cuts_into_runs
