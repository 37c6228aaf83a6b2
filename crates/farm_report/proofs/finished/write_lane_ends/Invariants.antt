use Rattle.std.specs.List.{flat_map, range_with_len}
use Rattle.farm_report.specs.RunText.{lane_end_text}
use Rattle.report_sink.specs.Sinks.{IsWritten}
use Rattle.farm_report.proofs.finished.write_lane_ends.Given as goal

abbrev pub invariant-loop-number : goal.invariant-loop-number
invariant-loop-number g l =
    IsWritten (g.S.Sink.state l.fn.out) (g.S.Sink.state l.out)
    (flat_map (lane_end_text l.universe l.plan.lanes l.chroots l.spent)
    (range_with_len 0 l.number))
