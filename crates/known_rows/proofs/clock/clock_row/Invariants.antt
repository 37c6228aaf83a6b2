use Rattle.std.proofs.Common.{◌≡◌, length}
use Rattle.farm_model.specs.Packages.{names, initial}
use Rattle.plan_model.specs.Plan.{Plan}
use Rattle.sat_rows.specs.Rows.{IsRowOf}
use Rattle.known_rows.specs.Clock.{count_of}
use Rattle.known_rows.specs.Marks.{AreLanes}
use Rattle.known_rows.proofs.ClockRows.{so_far}
use Rattle.known_rows.proofs.clock.clock_row.Given as goal

-- the lanes so far
abbrev pub invariant-loop-other : goal.invariant-loop-other
invariant-loop-other l =
    (length l.row ≡ names l.known.universe.now)
    × ((p : Plan) → AreLanes l.known.universe.now p l.known.lanes.now
    → IsRowOf l.known.universe.now (so_far l.known.universe.now p
    (initial l.known.universe.now) (count_of l.clock) l.other) l.row)
