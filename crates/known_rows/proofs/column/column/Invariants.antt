use Rattle.std.proofs.Common.{◌≡◌, length}
use Rattle.std.specs.List.{sum}
use Rattle.known_rows.specs.Column.{IsAbove}
use Rattle.known_rows.proofs.column.column.Given as goal

abbrev pub invariant-loop : goal.invariant-loop
invariant-loop l = record {
  long : length l.counts.items ≡ length l.points;
  above : IsAbove l.lane l.total l.points
      l.counts.items;
}

abbrev pub decreases-loop : goal.decreases-loop
decreases-loop l = sum l.counts.items
