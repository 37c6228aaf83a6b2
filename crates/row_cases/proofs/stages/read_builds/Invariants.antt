use Rattle.std.proofs.Common.{length}
use Rattle.row_cases.proofs.stages.read_builds.Given as goal

abbrev pub decreases-loop-line : goal.decreases-loop-line
decreases-loop-line l = length l.rest
