use Rattle.std.proofs.Common.{◌≡◌, length}
use Rattle.known_rows.specs.Column.{IsAbove}
use Rattle.known_rows.specs.Visit.{AreSettled}
use Rattle.known_rows.proofs.column.first_look.Given as goal

-- the places so far
abbrev pub invariant-loop-k : goal.invariant-loop-k
invariant-loop-k l = record {
  long : length l.counts.items ≡ length l.points;
  above : IsAbove l.lane l.total l.points l.counts.items;
  settled : AreSettled l.lane l.total l.points l.visit l.counts.items l.k;
}
