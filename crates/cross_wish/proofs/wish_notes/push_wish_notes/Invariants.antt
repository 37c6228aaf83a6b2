use Rattle.std.proofs.Common.{length}
use Rattle.cross_wish.proofs.wish_notes.push_wish_notes.Given as goal

abbrev pub decreases-loop-line : goal.decreases-loop-line
decreases-loop-line l = length l.rest
