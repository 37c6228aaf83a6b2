use Rattle.std.proofs.Common.{ℕ, ◌<◌, get_or}
use Rattle.known_rows.specs.declared.column.Source.{Source}
use Rattle.known_rows.specs.Visit.{IsEarlier}
use Rattle.known_rows.proofs.visit.are_earlier.Given as goal

-- the sources so far
abbrev pub invariant-loop-source : goal.invariant-loop-source
invariant-loop-source l =
    (i : ℕ) (d : Source) → i < l.source-index
    → IsEarlier l.places l.k (get_or l.sources i d).point
