use Rattle.std.proofs.Common.{arith, length, sym, ap, ◌∙◌, subst}
use Rattle.plan_model.specs.Plan.{lane}
use Rattle.farm_report.specs.VerdictText.{cost_line}
use Rattle.farm_report.proofs.CostLines.{line-is}
use Rattle.report_sink.specs.Sinks.{IsWritten}
use Rattle.report_sink.proofs.ItemLaws.{next_below, last_below}
use Rattle.farm_report.proofs.verdict.write_lanes.Goals as goal

pub loop-number-preserved : goal.loop-number-preserved
loop-number-preserved g c =
    next_below (cost_line c.args.accepted.now) c.loop-number.number _ _ _ c.loop-number.invariant
    (subst (IsWritten (g.S.Sink.state c.loop-number.out) (g.S.Sink.state c.write_lane.new.out))
    (line-is c.args.accepted.now c.loop-number.number _ _ _ _
    (c.lane-lane.ensures ∙ ap (λ p. lane p c.loop-number.number) c.plan-plan.ensures.lanes)
    c.name.ensures c.lane_cost-cost.ensures.cost c.budget.ensures)
    c.write_lane.ensures.written)

pub returns-in_err-write_lane-clause-written : goal.returns-in_err-write_lane-clause-written
returns-in_err-write_lane-clause-written g c =
    last_below (cost_line c.args.accepted.now) c.loop-number.number _ _ _ c.loop-number.invariant
    (subst (IsWritten (g.S.Sink.state c.loop-number.out) (g.S.Sink.state c.write_lane.new.out))
    (line-is c.args.accepted.now c.loop-number.number _ _ _ _
    (c.lane-lane.ensures ∙ ap (λ p. lane p c.loop-number.number) c.plan-plan.ensures.lanes)
    c.name.ensures c.lane_cost-cost.ensures.cost c.budget.ensures)
    c.write_lane.ensures.written)
    _
    (omega (
      arith,
      c.loop-number-test.true,
      c.lanes-number-end.ensures.lanes,
      ap length c.plan-plan.ensures.lanes,
    ))
    (sym c.in_err-write_lane.ensures.told)
