use Rattle.std.proofs.Common.{◌-◌, length}
use Rattle.known_rows.proofs.FirstHits.{IsSoFar}
use Rattle.known_rows.proofs.first_hits.first_hits.Given as goal

-- the names so far
abbrev pub invariant-loop-name : goal.invariant-loop-name
invariant-loop-name l = IsSoFar l.row l.known.lanes.now l.firsts.items l.name

abbrev pub decreases-loop-name : goal.decreases-loop-name
decreases-loop-name l = length l.row - l.name
