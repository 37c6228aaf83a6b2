use Rattle.sat_rows.specs.Inside.{IsInside}
use Rattle.sat_rows.proofs.Each.{Before}
use Rattle.sat_rows.proofs.inside.owner_inside.Given as goal

-- none so far
abbrev pub invariant-loop-item : goal.invariant-loop-item
invariant-loop-item l =
    Before (λ at. ¬ IsInside l.universe l.atom l.words at.owner.name) l.items l.item-index
