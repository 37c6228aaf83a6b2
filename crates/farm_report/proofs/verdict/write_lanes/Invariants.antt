use Rattle.std.specs.List.{flat_map, range_with_len}
use Rattle.report_sink.specs.Sinks.{IsWritten}
use Rattle.farm_report.specs.VerdictText.{cost_line}
use Rattle.farm_report.proofs.verdict.write_lanes.Given as goal

abbrev pub invariant-loop-number : goal.invariant-loop-number
invariant-loop-number g l =
    IsWritten (g.S.Sink.state l.fn.out) (g.S.Sink.state l.out)
    (flat_map (cost_line l.accepted) (range_with_len 0 l.number))
