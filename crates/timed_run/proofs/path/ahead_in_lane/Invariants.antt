use Rattle.std.proofs.Common.{◌≤◌}
use Rattle.timed_run.specs.Path.{NoneFrom}
use Rattle.timed_run.proofs.path.ahead_in_lane.Given as goal

abbrev pub invariant-loop-other : goal.invariant-loop-other
invariant-loop-other l = record {
  within : l.other ≤ l.number;
  none : NoneFrom l.events l.lane l.other l.number;
}

abbrev pub decreases-loop-other : goal.decreases-loop-other
decreases-loop-other l = l.other
