use Rattle.std.proofs.Common.{length}
use Rattle.cross_sources.proofs.rows.push_source.Given as goal

abbrev pub decreases-loop-line : goal.decreases-loop-line
decreases-loop-line l = length l.rest
