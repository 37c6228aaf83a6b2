use Rattle.std.proofs.Common.{length}
use Rattle.command_cases.proofs.lives.are_rightly_asked.Given as goal

abbrev pub decreases-loop-line : goal.decreases-loop-line
decreases-loop-line l = length l.rest
