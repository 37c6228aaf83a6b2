use Rattle.std.proofs.Common.{ap, ◌∙◌, length}
use Rattle.timed_farm.proofs.Turns.{numbered-long}
use Rattle.timed_farm.proofs.at_work.AtWorkFarm.published.Goals as goal

pub returns : goal.returns
returns c = ap length c.history.ensures ∙ numbered-long 0 c.args.self.now.core.state.published
