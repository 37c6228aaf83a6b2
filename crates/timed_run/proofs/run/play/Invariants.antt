use Rattle.std.proofs.Common.{◌≡◌}
use Rattle.plan_model.specs.Plan.{count}
use Rattle.timed_run.specs.Beginning.{Beginning}
use Rattle.timed_run.specs.Clocks.{IsTiming, work_left}
use Rattle.timed_run.proofs.run.play.Given as goal

abbrev pub invariant-loop-lane : goal.invariant-loop-lane
invariant-loop-lane g l = record {
  universe : g.F.Farm.universe l.farm ≡ g.F.Farm.universe l.fn.farm;
  plan : g.F.Farm.plan l.farm ≡ g.F.Farm.plan l.fn.farm;
  some : (b : Beginning) × IsTiming (g.F.Farm.universe l.fn.farm) (g.F.Farm.plan l.fn.farm) b
      l.events.items (g.F.Farm.state l.farm) l.clocks.items;
  timing : (b : Beginning) → IsTiming (g.F.Farm.universe l.fn.farm) (g.F.Farm.plan l.fn.farm) b
      l.fn.events.items (g.F.Farm.state l.fn.farm) l.fn.clocks.items
      → IsTiming (g.F.Farm.universe l.fn.farm) (g.F.Farm.plan l.fn.farm) b l.events.items
      (g.F.Farm.state l.farm) l.clocks.items;
}

abbrev pub decreases-loop-lane : goal.decreases-loop-lane
decreases-loop-lane g l =
    work_left (count (g.F.Farm.universe l.fn.farm) (g.F.Farm.plan l.fn.farm)) l.events.items
    l.clocks.items
