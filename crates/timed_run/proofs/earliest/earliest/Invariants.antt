use Rattle.timed_run.specs.Moments.{IsNextTo}
use Rattle.timed_run.proofs.earliest.earliest.Given as goal

abbrev pub invariant-loop-lane : goal.invariant-loop-lane
invariant-loop-lane g l =
    IsNextTo (g.F.Farm.plan l.farm) (g.F.Farm.state l.farm) l.clocks l.lane l.found
