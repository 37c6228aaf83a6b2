use Rattle.std.proofs.Common.{length}
use Rattle.leg_runs.proofs.leg.torn_at.Given as goal

abbrev pub decreases-loop-behind : goal.decreases-loop-behind
decreases-loop-behind l = length l.rest
