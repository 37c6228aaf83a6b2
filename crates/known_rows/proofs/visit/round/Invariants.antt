use Rattle.std.proofs.Common.{◌≡◌, length}
use Rattle.known_rows.proofs.visit.round.Given as goal

abbrev pub invariant-loop-lane : goal.invariant-loop-lane
invariant-loop-lane l = (length l.passed ≡ length l.points) × (length l.nexts ≡ length l.starts)
