use Rattle.std.proofs.Common.{◌≡◌, length}
use Rattle.farm_model.specs.Packages.{names}
use Rattle.plan_model.specs.Plan.{Plan}
use Rattle.sat_rows.specs.Rows.{IsRowOf}
use Rattle.known_rows.specs.Clock.{count_of, row_of}
use Rattle.known_rows.specs.Marks.{AreLanes}
use Rattle.known_rows.proofs.ClockRows.{so_far}
use Rattle.known_rows.proofs.words.add_later.Given as goal

-- the lanes so far
abbrev pub invariant-loop-other : goal.invariant-loop-other
invariant-loop-other l =
    let u = l.known.universe.now in
    (length l.words ≡ names u)
    × ((p : Plan) → AreLanes u p l.known.lanes.now
    → IsRowOf u (row_of u p (count_of l.from)) l.initial.words
    → IsRowOf u (so_far u p (row_of u p (count_of l.from)) (count_of l.to) l.other) l.words)
