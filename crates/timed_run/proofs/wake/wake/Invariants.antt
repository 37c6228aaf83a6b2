use Rattle.timed_run.specs.Clocks.{AreWoken}
use Rattle.timed_run.proofs.wake.wake.Given as goal

abbrev pub invariant-loop-lane : goal.invariant-loop-lane
invariant-loop-lane g l =
    AreWoken (g.F.Farm.universe l.farm) (g.F.Farm.plan l.farm) (g.F.Farm.state l.farm)
    (record { name = l.variant.name; bit = l.variant.bit }) l.time l.lane l.fn.clocks.items l.clocks.items
