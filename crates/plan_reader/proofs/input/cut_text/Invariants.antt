use Rattle.std.proofs.Common.{length}
use Rattle.plan_reader.proofs.CutText.{IsCutSoFar}
use Rattle.plan_reader.proofs.input.cut_text.Given as goal

abbrev pub invariant-loop-line : goal.invariant-loop-line
invariant-loop-line l = IsCutSoFar l.input l.rest

abbrev pub decreases-loop-line : goal.decreases-loop-line
decreases-loop-line l = length l.rest
