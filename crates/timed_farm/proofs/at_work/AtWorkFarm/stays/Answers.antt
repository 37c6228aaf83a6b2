use Rattle.std.proofs.Common.{ap}
use Rattle.plan_reader.specs.CountedPlan.{CountedPlan}
use Rattle.timed_farm.proofs.Stays.{stays-at}
use Rattle.timed_farm.proofs.at_work.AtWorkFarm.stays.Goals as goal

pub returns : goal.returns
returns c so =
    stays-at c.args.self.now.core.universe c.universe.result.now c.args.self.now.core.plan.lanes
    c.plan.result.now.lanes c.args.self.now.core.state c.args.lane c.done.result c.args.variant
    c.universe.ensures (ap (λ (p : CountedPlan). p.lanes) c.plan.ensures) c.done.ensures
    (c.rests_behind.ensures so)
