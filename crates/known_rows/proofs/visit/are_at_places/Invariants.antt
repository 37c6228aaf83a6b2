use Rattle.std.proofs.Common.{ℕ, ◌<◌}
use Rattle.known_rows.specs.Visit.{IsAtPlace}
use Rattle.known_rows.proofs.visit.are_at_places.Given as goal

-- the places so far
abbrev pub invariant-loop-k : goal.invariant-loop-k
invariant-loop-k l = (i : ℕ) → i < l.k → IsAtPlace l.order l.places i
