use Rattle.std.proofs.Common.{◌≡◌, length}
use Rattle.known_rows.proofs.visit.advance.Given as goal

abbrev pub invariant-loop-w : goal.invariant-loop-w
invariant-loop-w l = length l.passed ≡ length l.points
