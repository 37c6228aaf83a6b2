use Rattle.std.proofs.Common.{ap, arith}
use Rattle.plan_reader.specs.CountedPlan.{CountedPlan}
use Rattle.timed_farm.proofs.Turns.{no_lane}
use Rattle.timed_farm.proofs.at_work.AtWorkFarm.step.Goals as goal

pub returns-then-lane-lanes-clause-unmoved : goal.returns-then-lane-lanes-clause-unmoved
returns-then-lane-lanes-clause-unmoved c _ next moves =
    no_lane c.args.self.now.core.universe c.args.self.now.core.plan.lanes c.plan.result.now.lanes
    c.args.self.now.core.state c.args.lane (ap (λ (p : CountedPlan). p.lanes) c.plan.ensures)
    (omega (arith, c.lanes.ensures.lanes, c.if-lane-lanes.true)) next moves
