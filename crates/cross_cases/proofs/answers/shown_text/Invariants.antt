use Rattle.std.proofs.Common.{length}
use Rattle.cross_cases.proofs.answers.shown_text.Given as goal

abbrev pub decreases-loop-name : goal.decreases-loop-name
decreases-loop-name l = length l.rest
