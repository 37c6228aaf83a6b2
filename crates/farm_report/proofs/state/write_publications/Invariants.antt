use Rattle.std.proofs.Common.{take}
use Rattle.std.specs.List.{flat_map}
use Rattle.farm_report.specs.StateText.{published_text}
use Rattle.report_sink.specs.Sinks.{IsWritten}
use Rattle.farm_report.proofs.state.write_publications.Given as goal

abbrev pub invariant-loop-publication : goal.invariant-loop-publication
invariant-loop-publication g l =
    IsWritten (g.S.Sink.state l.fn.out) (g.S.Sink.state l.out)
    (flat_map (published_text l.universe l.plan.lanes) (take l.publication-index l.history))
