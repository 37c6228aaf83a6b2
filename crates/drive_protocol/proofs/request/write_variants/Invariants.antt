use Rattle.std.proofs.Common.{take}
use Rattle.std.specs.List.{flat_map}
use Rattle.drive_protocol.specs.RequestText.{variant_words}
use Rattle.report_sink.specs.Sinks.{IsWritten}
use Rattle.drive_protocol.proofs.request.write_variants.Given as goal

abbrev pub invariant-loop-variant : goal.invariant-loop-variant
invariant-loop-variant g l =
    IsWritten (g.S.Sink.state l.fn.out) (g.S.Sink.state l.out)
    (flat_map (variant_words l.universe) (take l.variant-index l.variants))
