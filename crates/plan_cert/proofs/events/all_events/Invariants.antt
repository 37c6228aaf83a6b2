use Rattle.plan_cert.specs.Events.{AreLaneEvents}
use Rattle.plan_cert.proofs.events.all_events.Given as goal

-- the lanes so far
abbrev pub invariant-loop-number : goal.invariant-loop-number
invariant-loop-number l = AreLaneEvents l.universe l.plan.lanes l.number l.lanes.items
