use Rattle.std.proofs.Common.{arith, length, sym, ap}
use Rattle.plan_reader.specs.CountedPlan.{CountedPlan}
use Rattle.plan_model.specs.Common.{lane, lane_state}
use Rattle.farm_report.specs.StateText.{lane_text}
use Rattle.report_sink.proofs.ItemLaws.{next_below, last_below}
use Rattle.farm_report.proofs.state.write_lanes.Goals as goal

pub loop-number-preserved : goal.loop-number-preserved
loop-number-preserved g c =
    let f = c.args.core.now in
    next_below (λ l. lane_text f.universe (lane f.plan.lanes l) (lane_state f.state l))
    c.loop-number.number _ _ _ c.loop-number.invariant c.write_lane_state.ensures.written

pub returns-in_err-write_lane_state-clause-written :
    goal.returns-in_err-write_lane_state-clause-written
returns-in_err-write_lane_state-clause-written g c =
    let f = c.args.core.now in
    last_below (λ l. lane_text f.universe (lane f.plan.lanes l) (lane_state f.state l))
    c.loop-number.number _ _ _ c.loop-number.invariant c.write_lane_state.ensures.written _
    (omega (
      arith,
      c.loop-number-test.true,
      c.lanes-number-end.ensures.lanes,
      ap (λ (p : CountedPlan). length p.lanes) c.plan.ensures,
    ))
    (sym c.in_err-write_lane_state.ensures.told)
