use Rattle.std.proofs.Common.{◌≡◌, ℕ, ◌<◌, ◌≤◌, Some, slice_get, slice_index, true, false}
use Rattle.std.specs.List.{sum}
use Rattle.known_rows.specs.declared.column.Point.{Point}
use Rattle.known_rows.specs.Column.{of_list, bound, IsAbove}
use Rattle.known_rows.proofs.column.round.Given as goal

abbrev pub invariant-loop-w : goal.invariant-loop-w
invariant-loop-w l = record {
  above : IsAbove l.lane l.total l.points l.initial.x → IsAbove l.lane l.total l.points l.x;
  no_more : sum l.x ≤ sum l.initial.x;
  smaller : l.changed ≡ true → sum l.x < sum l.initial.x;
  same : l.changed ≡ false → l.x ≡ l.initial.x;
  stable : l.changed ≡ false → (k : ℕ) (p : Point) → k < l.w → slice_get l.points k ≡ Some p
      → slice_index l.initial.x k ≤ bound l.lane l.total (of_list l.initial.x) p;
}
