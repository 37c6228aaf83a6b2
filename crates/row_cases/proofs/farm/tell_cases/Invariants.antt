use Rattle.std.proofs.Common.{length}
use Rattle.row_cases.proofs.farm.tell_cases.Given as goal

abbrev pub decreases-loop-line : goal.decreases-loop-line
decreases-loop-line g l = length l.rest
