use Rattle.std.proofs.Common.{subst, sym, arith}
use Rattle.farm_core.proofs.Opened.{OpenedTo, opened-none, opened-more, opened-all}
use Rattle.farm_core.proofs.farm.open_lanes.Goals as goal

pub loop-number-init : goal.loop-number-init
loop-number-init c =
    subst (OpenedTo c.args.universe.now c.args.plan.now.lanes 0) (sym c.new-lanes.ensures.items)
    (opened-none c.args.universe.now c.args.plan.now.lanes)

pub loop-number-preserved : goal.loop-number-preserved
loop-number-preserved c =
    opened-more c.args.universe.now c.args.plan.now.lanes c.loop-number.number
    c.loop-number.lanes.items c.push.new.self.items c.in_ok-open.field-0 c.lane.result.now
    (omega (arith, c.loop-number-test.true, c.lanes-number-end.ensures.lanes))
    c.loop-number.invariant c.lane.ensures c.in_ok-open.ensures.start c.in_ok-open.ensures.run
    c.in_ok-open.ensures.awake c.in_ok-push.ensures.items

pub returns : goal.returns
returns c =
    opened-all c.args.universe.now c.args.plan.now.lanes c.loop-number.number
    c.loop-number.lanes.items
    (omega (arith, c.loop-number-test.false, c.lanes-number-end.ensures.lanes))
    c.loop-number.invariant
