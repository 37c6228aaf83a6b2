use Rattle.std.proofs.Common.{◌≡◌, ◌⊎◌, ℕ, ◌<◌, Some, slice_get}
use Rattle.std.specs.List.{Contains}
use Rattle.known_rows.specs.declared.column.Point.{Point}
use Rattle.known_rows.specs.Visit.{IsInTurn}
use Rattle.known_rows.proofs.visit.late.Given as goal

-- the points so far
abbrev pub invariant-loop-w : goal.invariant-loop-w
invariant-loop-w l =
    (v : ℕ) (p : Point) → v < l.w → slice_get l.points v ≡ Some p
    → Contains l.late.items v ⊎ IsInTurn l.order l.places v p
