use Rattle.std.proofs.Common.{take}
use Rattle.timeline.specs.LaneTimes.{AreLanes}
use Rattle.timeline.proofs.lanes.lanes_of.Given as goal

abbrev pub invariant-loop-number : goal.invariant-loop-number
invariant-loop-number l = AreLanes (take l.number l.events) l.fn.count l.lanes.items
