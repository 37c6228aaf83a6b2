use Rattle.timed_farm.proofs.Turns.{output-some, output-none}
use Rattle.timed_farm.proofs.at_work.AtWorkFarm.output_behind.Goals as goal

pub returns-in-Some : goal.returns-in-Some
returns-in-Some c =
    output-some c.history.result.now c.args.self.now.core.state.published c.args.published
    c.in-Some.publication.now c.history.ensures c.in-Some.ensures.lookup.3.0
    c.in-Some.ensures.lookup.1

pub returns-in-None : goal.returns-in-None
returns-in-None c =
    output-none c.history.result.now c.args.self.now.core.state.published c.args.published
    c.history.ensures c.in-None.ensures.lookup.3
