use Rattle.std.proofs.Common.{arith, sym}
use Rattle.farm_report.specs.RunText.{lane_end_text}
use Rattle.report_sink.proofs.ItemLaws.{next_below, last_below}
use Rattle.farm_report.proofs.finished.write_lane_ends.Goals as goal

pub loop-number-preserved : goal.loop-number-preserved
loop-number-preserved g c =
    next_below (lane_end_text c.args.universe.now c.args.plan.now.lanes c.args.chroots.now
    c.args.spent.now) c.loop-number.number _ _ _ c.loop-number.invariant
    c.write_lane_end.ensures.written

pub returns-in_err-write_lane_end-clause-written : goal.returns-in_err-write_lane_end-clause-written
returns-in_err-write_lane_end-clause-written g c =
    last_below (lane_end_text c.args.universe.now c.args.plan.now.lanes c.args.chroots.now
    c.args.spent.now) c.loop-number.number _ _ _ c.loop-number.invariant
    c.write_lane_end.ensures.written _
    (omega (arith, c.loop-number-test.true, c.lanes-number-end.ensures.lanes))
    (sym c.in_err-write_lane_end.ensures.told)
