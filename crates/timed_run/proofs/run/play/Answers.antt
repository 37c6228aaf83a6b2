use Rattle.std.proofs.Common.{◌≡◌, ◌<◌, ℕ, false, length, Some, slice_get, arith, subst, ◌∙◌}
use Rattle.timed_run.specs.Beginning.{Beginning}
use Rattle.timed_run.specs.Clocks.{IsTiming}
use Rattle.timed_run.proofs.Moves.{carried}
use Rattle.timed_run.specs.declared.clock.Clock.{Clock}
use Rattle.timed_run.proofs.Advanced.{room, ended-all}
use Rattle.timed_run.proofs.run.play.Goals as goal

pub earliest-requires-clause-fit : goal.earliest-requires-clause-fit
earliest-requires-clause-fit g c l d at =
    let some = c.loop-lane.invariant.some in
    let wide = room (g.F.Farm.universe c.args.farm.now) (g.F.Farm.plan c.args.farm.now) some.0
    c.requires.sound c.requires.safe c.loop-lane.events.items (g.F.Farm.state c.loop-lane.farm)
    c.loop-lane.clocks.items some.1 c.requires.counted l d
    (subst (λ cs. slice_get cs l ≡ Some d) c.deref.ensures.value at) in
    omega (arith, wide)

pub loop-lane-preserved : goal.loop-lane-preserved
loop-lane-preserved g c = record {
  universe = c.in_ok-advance.ensures.universe ∙ c.loop-lane.invariant.universe;
  plan = c.in_ok-advance.ensures.plan ∙ c.loop-lane.invariant.plan;
  some = let some = c.loop-lane.invariant.some in (some.0, onwards some.0 some.1);
  timing = λ b t. onwards b (c.loop-lane.invariant.timing b t);
}
  where
    onwards : (b : Beginning)
        → IsTiming (g.F.Farm.universe c.args.farm.now) (g.F.Farm.plan c.args.farm.now) b
        c.loop-lane.events.items (g.F.Farm.state c.loop-lane.farm) c.loop-lane.clocks.items
        → IsTiming (g.F.Farm.universe c.args.farm.now) (g.F.Farm.plan c.args.farm.now) b
        c.advance.new.events.items (g.F.Farm.state c.advance.new.farm) c.advance.new.clocks.items
    onwards b = carried (g.F.Farm.universe c.loop-lane.farm) (g.F.Farm.universe c.args.farm.now)
        (g.F.Farm.plan c.loop-lane.farm) (g.F.Farm.plan c.args.farm.now) b
        c.loop-lane.events.items c.advance.new.events.items (g.F.Farm.state c.loop-lane.farm)
        (g.F.Farm.state c.advance.new.farm) c.loop-lane.clocks.items c.advance.new.clocks.items
        c.loop-lane.invariant.universe c.loop-lane.invariant.plan
        (c.in_ok-advance.ensures.timing b)

pub returns-clause-ended : goal.returns-clause-ended
returns-clause-ended g c b t =
    ended-all (g.F.Farm.universe c.args.farm.now) (g.F.Farm.plan c.args.farm.now) b
    c.requires.sound c.requires.safe c.loop-lane.events.items (g.F.Farm.state c.loop-lane.farm)
    c.loop-lane.clocks.items (c.loop-lane.invariant.timing b t)
    (subst (λ cs. (k : ℕ) (d : Clock) → k < length cs → slice_get cs k ≡ Some d
    → d.awake ≡ false) c.deref.ensures.value c.in_default.ensures)
