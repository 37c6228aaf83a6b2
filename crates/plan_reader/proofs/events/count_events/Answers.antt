use Rattle.std.proofs.Common.{sym, ◌∙◌, arith}
use Rattle.plan_reader.proofs.Counts.{count-lanes, lane-short, sum-goes, sum-ends}
use Rattle.plan_model.specs.Plan.{Lane, ways}
use Rattle.plan_reader.proofs.events.count_events.Goals as goal

pub lane_events-events-requires : goal.lane_events-events-requires
lane_events-events-requires c =
    let short = lane-short c.args.lanes.now c.loop-lane.lane-index c.lane-item.result
    c.loop-lane-test.true c.lane-item.is in
    rw c.instructions.ensures (omega (arith, short, c.requires.instructions))

pub overflow_add-events : goal.overflow_add-events
overflow_add-events c =
    let short = lane-short c.args.lanes.now c.loop-lane.lane-index c.lane-item.result
    c.loop-lane-test.true c.lane-item.is in
    let few = rw c.instructions.ensures at c.lane_events-events.ensures.few in
    omega (arith, short, few, c.requires.instructions, c.requires.lanes, c.loop-lane.invariant.few)

pub loop-lane-preserved : goal.loop-lane-preserved
loop-lane-preserved c =
    let u = c.args.universe.now in
    let short = lane-short c.args.lanes.now c.loop-lane.lane-index c.lane-item.result
    c.loop-lane-test.true c.lane-item.is in
    let few = rw c.instructions.ensures at c.lane_events-events.ensures.few in
    record {
      so_far = rw (c.lane_events-events.ensures.events, c.instructions.ensures)
          (sum-goes (λ (of : Lane). (ways u of.instructions).here)
          c.args.lanes.now c.loop-lane.lane-index c.lane-item.result _ _
          c.loop-lane-test.true c.lane-item.is c.loop-lane.invariant.so_far);
      few = omega (arith, short, few, c.requires.instructions, c.loop-lane.invariant.few);
    }

pub returns : goal.returns
returns c =
    let u = c.args.universe.now in
    sum-ends (λ (of : Lane). (ways u of.instructions).here)
    c.args.lanes.now c.loop-lane.lane-index _ _ (omega arith) c.loop-lane.invariant.so_far
    ∙ sym (count-lanes u c.args.lanes.now)
