use Rattle.std.specs.Io.KnownBytes.{Keeps}
use Rattle.report_sink.proofs.write_sink.write_once.Given as goal

abbrev pub invariant-loop : goal.invariant-loop
invariant-loop g l = Keeps (g.W.Write.contents l.fn.writer) (g.W.Write.contents l.writer)
