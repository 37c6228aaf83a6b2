use Rattle.plan_cert.specs.Events.{AreEvents}
use Rattle.plan_cert.proofs.events.lane_events.Given as goal

-- the places so far
abbrev pub invariant-loop-place : goal.invariant-loop-place
invariant-loop-place l = AreEvents l.universe l.plan.lanes l.number l.place l.events.items
