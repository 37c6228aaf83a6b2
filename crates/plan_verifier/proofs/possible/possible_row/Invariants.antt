use Rattle.std.proofs.Common.{◌||◌}
use Rattle.std.specs.List.{list_any}
use Rattle.farm_model.specs.Common.{some_below, initial}
use Rattle.plan_model.specs.Known.{gives, within_reach}
use Rattle.sat_rows.specs.Rows.{IsRowOf}
use Rattle.plan_verifier.proofs.possible.possible_row.Given as goal

-- the lanes so far
abbrev pub invariant-loop-other : goal.invariant-loop-other
invariant-loop-other l =
    IsRowOf l.universe
    (λ v. initial l.universe v
    || some_below l.other (λ j. list_any (gives l.universe v)
    (within_reach l.plan.lanes l.number 0 j))) l.row
