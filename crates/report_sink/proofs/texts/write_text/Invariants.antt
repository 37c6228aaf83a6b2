use Rattle.std.proofs.Common.{length}
use Rattle.report_sink.proofs.WriteLaws.{IsGoing}
use Rattle.report_sink.proofs.texts.write_text.Given as goal

abbrev pub invariant-loop-rest : goal.invariant-loop-rest
invariant-loop-rest g l = IsGoing (g.S.Sink.state l.fn.out) (g.S.Sink.state l.out) l.text l.rest

abbrev pub decreases-loop-rest : goal.decreases-loop-rest
decreases-loop-rest g l = length l.rest
