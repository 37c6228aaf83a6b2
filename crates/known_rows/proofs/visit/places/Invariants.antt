use Rattle.std.proofs.Common.{◌≡◌, length}
use Rattle.known_rows.proofs.visit.places.Given as goal

abbrev pub invariant-loop-k : goal.invariant-loop-k
invariant-loop-k l = length l.places.items ≡ l.count
