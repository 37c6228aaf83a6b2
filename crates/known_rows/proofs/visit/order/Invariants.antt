use Rattle.std.proofs.Common.{◌≡◌, length}
use Rattle.known_rows.proofs.visit.order.Given as goal

abbrev pub invariant-loop-turn : goal.invariant-loop-turn
invariant-loop-turn l =
    (length l.passed.items ≡ length l.points) × (length l.nexts.items ≡ length l.starts.items)
