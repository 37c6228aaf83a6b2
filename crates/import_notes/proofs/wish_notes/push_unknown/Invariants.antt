use Rattle.std.proofs.Common.{length}
use Rattle.import_notes.proofs.wish_notes.push_unknown.Given as goal

abbrev pub decreases-loop-line : goal.decreases-loop-line
decreases-loop-line l = length l.rest
