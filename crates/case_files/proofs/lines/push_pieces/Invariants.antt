use Rattle.std.proofs.Common.{length}
use Rattle.case_files.proofs.lines.push_pieces.Given as goal

abbrev pub decreases-loop-piece : goal.decreases-loop-piece
decreases-loop-piece l = length l.rest
