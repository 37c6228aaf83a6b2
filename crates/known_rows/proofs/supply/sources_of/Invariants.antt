use Rattle.std.proofs.Common.{length, Bool}
use Rattle.farm_model.specs.declared.types.Variant.{Variant}
use Rattle.sat_rows.specs.Rows.{IsRowOf}
use Rattle.known_rows.specs.Hits.{AreSourcesBelow}
use Rattle.known_rows.proofs.supply.sources_of.Given as goal

-- the lanes so far
abbrev pub invariant-loop-number : goal.invariant-loop-number
invariant-loop-number l =
    (test : Variant → Bool) → IsRowOf l.supply.universe.now test l.row
    → AreSourcesBelow l.supply.universe.now l.supply.plan.now.lanes (length l.supply.plan.now.lanes)
    0 test l.sources.items
    l.number
