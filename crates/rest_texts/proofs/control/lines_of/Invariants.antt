use Rattle.std.proofs.Common.{length}
use Rattle.rest_texts.proofs.control.lines_of.Given as goal

abbrev pub decreases-loop-line : goal.decreases-loop-line
decreases-loop-line l = length l.rest
