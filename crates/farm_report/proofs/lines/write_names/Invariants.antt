use Rattle.std.proofs.Common.{take}
use Rattle.std.specs.List.{flat_map}
use Rattle.report_sink.specs.Sinks.{IsWritten}
use Rattle.farm_report.proofs.NameLaws.{behind_space}
use Rattle.farm_report.proofs.lines.write_names.Given as goal

abbrev pub invariant-loop-name : goal.invariant-loop-name
invariant-loop-name g l =
    IsWritten (g.S.Sink.state l.fn.out) (g.S.Sink.state l.out)
    (flat_map behind_space (take l.name-index l.names))
