use Rattle.verdict_laws.proofs.AtRest.{lanes_left_are_left as law}
use Rattle.verdict_laws.proofs.stuck.lanes_left_are_left.Goals as goal

pub returns : goal.returns
returns c = law
