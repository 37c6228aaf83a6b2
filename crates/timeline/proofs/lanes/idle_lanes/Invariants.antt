use Rattle.std.proofs.Common.{[]}
use Rattle.timeline.specs.LaneTimes.{AreLanes}
use Rattle.timeline.proofs.lanes.idle_lanes.Given as goal

abbrev pub invariant-loop : goal.invariant-loop
invariant-loop l = AreLanes [] l.counter l.lanes.items
