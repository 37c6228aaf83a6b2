use Rattle.farm_core.proofs.Opened.{OpenedTo}
use Rattle.farm_core.proofs.farm.open_lanes.Given as goal

abbrev pub invariant-loop-number : goal.invariant-loop-number
invariant-loop-number l = OpenedTo l.universe l.plan.lanes l.number l.lanes.items
