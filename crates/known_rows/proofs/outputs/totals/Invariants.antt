use Rattle.farm_model.specs.Universe.{Universe}
use Rattle.plan_model.specs.Plan.{Plan}
use Rattle.known_rows.specs.Marks.{AreLanes}
use Rattle.known_rows.specs.Outputs.{AreTotals}
use Rattle.known_rows.proofs.outputs.totals.Given as goal

-- the lanes so far
abbrev pub invariant-loop-number : goal.invariant-loop-number
invariant-loop-number l =
    (u : Universe) (p : Plan) → AreLanes u p l.lanes → AreTotals u p l.number l.totals.items
