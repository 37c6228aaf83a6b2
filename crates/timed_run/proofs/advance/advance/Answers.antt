use Rattle.std.proofs.Common.{◌∙◌, ◌-◌, refl, ap, length}
use Rattle.std.proofs.lemmas.List.{length_push}
use Rattle.plan_model.specs.Run.{lane_state}
use Rattle.timed_run.proofs.Advanced.{free, room, at, sleeps, sleeps-less, goes-to, gives-to, less}
use Rattle.timed_run.proofs.advance.advance.Goals as goal

pub step-requires : goal.step-requires
step-requires g c = record {
  free = free (g.F.Farm.universe c.args.farm.now) (g.F.Farm.plan c.args.farm.now) c.requires.timing.0 c.requires.sound c.requires.safe c.args.events.now.items (g.F.Farm.state c.args.farm.now) c.args.clocks.now.items c.requires.timing.1 c.args.lane;
}

pub returns-then-not-step-clause-timing : goal.returns-then-not-step-clause-timing
returns-then-not-step-clause-timing g c b t =
    sleeps (g.F.Farm.universe c.args.farm.now) (g.F.Farm.plan c.args.farm.now) b c.requires.sound c.requires.safe c.args.events.now.items (g.F.Farm.state c.args.farm.now) c.args.clocks.now.items t c.args.lane c.requires.first c.index-clock.result.now c.index-clock.ensures (g.F.Farm.state c.step.new.self)
    (c.if-not-step.ensures.stayed refl) (c.if-not-step.ensures.unmoved refl)

pub returns-then-not-step-clause-less : goal.returns-then-not-step-clause-less
returns-then-not-step-clause-less g c = sleeps-less (g.F.Farm.universe c.args.farm.now) (g.F.Farm.plan c.args.farm.now) c.requires.timing.0 c.requires.sound c.requires.safe c.args.events.now.items (g.F.Farm.state c.args.farm.now) c.args.clocks.now.items c.requires.timing.1 c.args.lane c.requires.first c.index-clock.result.now c.index-clock.ensures

pub end_of-end-requires : goal.end_of-end-requires
end_of-end-requires g c =
    room (g.F.Farm.universe c.args.farm.now) (g.F.Farm.plan c.args.farm.now) c.requires.timing.0 c.requires.sound c.requires.safe c.args.events.now.items (g.F.Farm.state c.args.farm.now) c.args.clocks.now.items c.requires.timing.1 c.requires.counted c.args.lane c.index-clock.result.now (at (g.F.Farm.universe c.args.farm.now) (g.F.Farm.plan c.args.farm.now) c.requires.timing.0 c.requires.sound c.requires.safe c.args.events.now.items (g.F.Farm.state c.args.farm.now) c.args.clocks.now.items c.requires.timing.1 c.args.lane c.requires.first c.index-clock.result.now c.index-clock.ensures)

pub returns-in-Some-clause-timing : goal.returns-in-Some-clause-timing
returns-in-Some-clause-timing g c b t =
    gives-to (g.F.Farm.universe c.args.farm.now) (g.F.Farm.plan c.args.farm.now) b c.requires.sound c.requires.safe c.args.events.now.items (g.F.Farm.state c.args.farm.now) c.args.clocks.now.items t c.args.lane c.requires.first c.index-clock.result.now c.index-clock.ensures (g.F.Farm.state c.step.new.self) (c.if-not-step.ensures.moved refl)
    c.published-published.result c.done-place.result c.end_of-end.result
    c.saturating_sub-cost.result c.published-published.ensures c.done-place.ensures
    (c.saturating_sub-cost.ensures
    ∙ (ap (λ a. a - c.spent-spent.result) c.spent.ensures
    ∙ ap (λ b. (lane_state (g.F.Farm.state c.step.new.self) c.args.lane).spent - b) c.spent-spent.ensures))
    c.saturating_sub-cost.type_inv c.output_behind-output.result c.output_behind-output.ensures
    c.push.new.self.items c.in_ok-push.ensures.items c.in-Some.variant c.in-Some.is
    (c.end_of-end.ensures.gives c.in-Some.variant c.in-Some.is) c.wake.new.clocks.items _ _
    c.step.ensures.universe c.step.ensures.plan c.wake.ensures

pub returns-in-Some-clause-less : goal.returns-in-Some-clause-less
returns-in-Some-clause-less g c =
    less (g.F.Farm.universe c.args.farm.now) (g.F.Farm.plan c.args.farm.now) c.requires.timing.0 c.requires.safe c.args.events.now.items c.push.new.self.items (g.F.Farm.state c.args.farm.now) (g.F.Farm.state c.step.new.self)
    c.args.clocks.now.items c.wake.new.clocks.items c.requires.timing.1
    (returns-in-Some-clause-timing g c c.requires.timing.0 c.requires.timing.1)
    (ap length c.in_ok-push.ensures.items ∙ length_push c.args.events.now.items _)

pub returns-in_default-clause-timing : goal.returns-in_default-clause-timing
returns-in_default-clause-timing g c b t =
    goes-to (g.F.Farm.universe c.args.farm.now) (g.F.Farm.plan c.args.farm.now) b c.requires.sound c.requires.safe c.args.events.now.items (g.F.Farm.state c.args.farm.now) c.args.clocks.now.items t c.args.lane c.requires.first c.index-clock.result.now c.index-clock.ensures (g.F.Farm.state c.step.new.self) (c.if-not-step.ensures.moved refl)
    c.published-published.result c.done-place.result c.end_of-end.result
    c.saturating_sub-cost.result c.published-published.ensures c.done-place.ensures
    (c.saturating_sub-cost.ensures
    ∙ (ap (λ a. a - c.spent-spent.result) c.spent.ensures
    ∙ ap (λ b. (lane_state (g.F.Farm.state c.step.new.self) c.args.lane).spent - b) c.spent-spent.ensures))
    c.saturating_sub-cost.type_inv c.output_behind-output.result c.output_behind-output.ensures
    c.push.new.self.items c.in_ok-push.ensures.items c.in_default.is
    (c.end_of-end.ensures.goes c.in_default.is)

pub returns-in_default-clause-less : goal.returns-in_default-clause-less
returns-in_default-clause-less g c =
    less (g.F.Farm.universe c.args.farm.now) (g.F.Farm.plan c.args.farm.now) c.requires.timing.0 c.requires.safe c.args.events.now.items c.push.new.self.items (g.F.Farm.state c.args.farm.now) (g.F.Farm.state c.step.new.self)
    c.args.clocks.now.items _ c.requires.timing.1
    (returns-in_default-clause-timing g c c.requires.timing.0 c.requires.timing.1)
    (ap length c.in_ok-push.ensures.items ∙ length_push c.args.events.now.items _)
