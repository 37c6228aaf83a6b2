use Rattle.std.proofs.Common.{take, flat_map}
use Rattle.report_sink.specs.Sinks.{IsWritten}
use Rattle.shown_text.specs.Escapes.{shown_byte}
use Rattle.shown_text.proofs.escapes.write_bytes.Given as goal

abbrev pub invariant-loop-byte : goal.invariant-loop-byte
invariant-loop-byte g l =
    IsWritten (g.S.Sink.state l.fn.out) (g.S.Sink.state l.out)
    (flat_map (shown_byte l.is_quoted) (take l.byte-index l.bytes))
