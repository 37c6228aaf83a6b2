use Rattle.std.proofs.Common.{◌≡◌, ℕ, ◌<◌, length, Some, slice_get}
use Rattle.known_rows.specs.declared.marks.Mark.{Mark}
use Rattle.known_rows.specs.Hits.{HasPointOf}
use Rattle.known_rows.proofs.points.points_by.Given as goal

-- the points so far
abbrev pub invariant-loop-w : goal.invariant-loop-w
invariant-loop-w l =
    record {
      long : length l.points.items ≡ l.w;
      have : (k : ℕ) (m : Mark) → k < l.w → slice_get l.marks k ≡ Some m
          → HasPointOf l.supply.universe.now l.supply.plan.now.lanes l.points.items k m;
    }
