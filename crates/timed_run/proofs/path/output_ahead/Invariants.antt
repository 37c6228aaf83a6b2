use Rattle.std.proofs.Common.{◌<◌, ℕ}
use Rattle.timed_run.specs.Path.{LetsOn}
use Rattle.timed_run.specs.Links.{nearest_of}
use Rattle.timed_run.proofs.path.output_ahead.Given as goal

abbrev pub invariant-loop-step : goal.invariant-loop-step
invariant-loop-step g l = (s : ℕ) → s < l.step
    → LetsOn (g.F.Farm.universe l.farm) (g.F.Farm.plan l.farm) l.events (nearest_of l.number s)
    l.number → ⊥
