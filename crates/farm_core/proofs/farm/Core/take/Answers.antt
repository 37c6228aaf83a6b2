use Rattle.std.proofs.Common.{sym, ap, subst, arith, length, ◌≤◌}
use Rattle.plan_reader.specs.CountedPlan.{CountedPlan}
use Rattle.farm_core.specs.Farm.{Farm, step_told, state_after, with_state}
use Rattle.farm_core.proofs.Views.{unknown}
use Rattle.farm_core.proofs.farm.Core.take.Goals as goal

pub returns-then-lane-lanes-clause-told : goal.returns-then-lane-lanes-clause-told
returns-then-lane-lanes-clause-told c =
    let f = c.args.self.now in
    let plans = ap (λ (f : Farm). f.plan) c.self.view_is in
    sym (ap step_told (unknown f.universe f.plan.lanes f.state c.args.lane
    (subst (λ (plan : CountedPlan). length plan.lanes ≤ c.args.lane) plans
    (omega (arith, c.if-lane-lanes.true, c.lanes.ensures.lanes)))))

pub returns-then-lane-lanes-clause-after : goal.returns-then-lane-lanes-clause-after
returns-then-lane-lanes-clause-after c =
    let f = c.args.self.now in
    let plans = ap (λ (f : Farm). f.plan) c.self.view_is in
    sym (ap (λ o. with_state f (state_after f.state o))
    (unknown f.universe f.plan.lanes f.state c.args.lane
    (subst (λ (plan : CountedPlan). length plan.lanes ≤ c.args.lane) plans
    (omega (arith, c.if-lane-lanes.true, c.lanes.ensures.lanes)))))
