use Rattle.std.specs.List.{flat_map, range_with_len}
use Rattle.plan_model.specs.Common.{lane, lane_state}
use Rattle.farm_report.specs.StateText.{lane_text}
use Rattle.report_sink.specs.Sinks.{IsWritten}
use Rattle.farm_report.proofs.state.write_lanes.Given as goal

abbrev pub invariant-loop-number : goal.invariant-loop-number
invariant-loop-number g l =
    IsWritten (g.S.Sink.state l.fn.out) (g.S.Sink.state l.out)
    (flat_map
    (λ k. lane_text l.core.universe (lane l.core.plan.lanes k) (lane_state l.core.state k))
    (range_with_len 0 l.number))
