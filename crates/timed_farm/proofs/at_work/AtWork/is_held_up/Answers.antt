use Rattle.std.proofs.Common.{ap}
use Rattle.plan_reader.specs.CountedPlan.{CountedPlan}
use Rattle.timed_farm.proofs.HeldUp.{held_at}
use Rattle.timed_farm.proofs.at_work.AtWork.is_held_up.Goals as goal

pub returns-in-Some-waited : goal.returns-in-Some-waited
returns-in-Some-waited c =
    held_at c.args.self.now.core.universe c.args.self.now.core.plan.lanes
    c.plan-plan.result.now.lanes c.args.self.now.core.state c.args.lane c.done.result
    c.in-Some.instruction.now c.in-Some-waited.entry.now c.may_pass.result
    (ap (λ (p : CountedPlan). p.lanes) c.plan-plan.ensures) c.done.ensures c.in-Some.ensures
    c.in-Some-waited.ensures.some c.may_pass.ensures
