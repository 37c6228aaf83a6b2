use Rattle.explain_lanes.proofs.OnStuck.{notes_are_on_the_stuck as law}
use Rattle.explain_lanes.proofs.stuck.notes_are_on_the_stuck.Goals as goal

pub returns : goal.returns
returns c = law
