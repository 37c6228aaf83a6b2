use Rattle.std.proofs.Common.{◌≡◌, ◌≤◌, ◌<◌, ℕ, Some, get_or, slice_get, slice_index}
use Rattle.known_rows.specs.declared.column.Point.{Point}
use Rattle.known_rows.specs.Column.{of_list, bound}
use Rattle.known_rows.proofs.column.are_settled.Given as goal

-- the points so far
abbrev pub invariant-loop-w : goal.invariant-loop-w
invariant-loop-w l =
    (k d : ℕ) → k < l.w-index → (p : Point) → slice_get l.points (get_or l.late k d) ≡ Some p
    → slice_index l.x (get_or l.late k d) ≤ bound l.lane l.total (of_list l.x) p
