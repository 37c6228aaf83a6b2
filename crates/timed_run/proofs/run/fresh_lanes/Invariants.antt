use Rattle.timed_run.specs.Clocks.{AreFresh}
use Rattle.timed_run.proofs.run.fresh_lanes.Given as goal

abbrev pub invariant-loop-lane : goal.invariant-loop-lane
invariant-loop-lane l = AreFresh l.free l.lane l.clocks.items
