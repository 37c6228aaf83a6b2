use Rattle.std.proofs.Common.{◌<◌, sym, subst}
use Rattle.timed_run.specs.Path.{IsLinked, IsCriticalPath}
use Rattle.timed_run.specs.Timed.{AreTimed}
use Rattle.timed_run.proofs.Paths.{StartsWith, starts-more, linked-next, next-within, left_of, left-less, ends-path}
use Rattle.timed_run.proofs.path.critical_path.Goals as goal

pub loop-next-smaller : goal.loop-next-smaller
loop-next-smaller g c =
    subst (λ o. left_of c.as_slice-events.result.now c.ahead-next.result < left_of c.as_slice-events.result.now o) (sym c.in-Some.is)
    (left-less (g.F.Farm.universe c.args.farm.now) (g.F.Farm.plan c.args.farm.now)
    c.requires.run.0 c.as_slice-events.result.now
    (subst (AreTimed (g.F.Farm.universe c.args.farm.now) (g.F.Farm.plan c.args.farm.now) c.requires.run.0) (sym c.as_slice-events.ensures.value) c.requires.run.1.timed)
    c.in-Some.number c.ahead-next.result (c.loop-next.invariant.within c.in-Some.number c.in-Some.is) c.ahead-next.ensures.some)

pub loop-next-preserved : goal.loop-next-preserved
loop-next-preserved g c = record {
  linked = λ b run. subst (λ xs. IsLinked (g.F.Farm.universe c.args.farm.now) (g.F.Farm.plan c.args.farm.now) b c.as_slice-events.result.now xs c.ahead-next.result) (sym c.in_ok-push.ensures.items)
      (linked-next (g.F.Farm.universe c.args.farm.now) (g.F.Farm.plan c.args.farm.now) b c.as_slice-events.result.now c.loop-next.path.items c.in-Some.number c.ahead-next.result
      (subst (IsLinked (g.F.Farm.universe c.args.farm.now) (g.F.Farm.plan c.args.farm.now) b c.as_slice-events.result.now c.loop-next.path.items) c.in-Some.is
      (c.loop-next.invariant.linked b run))
      (λ none. c.ahead-next.ensures.none none b
      (subst (AreTimed (g.F.Farm.universe c.args.farm.now) (g.F.Farm.plan c.args.farm.now) b) (sym c.as_slice-events.ensures.value) run.timed))
      c.ahead-next.ensures.some);
  starts = λ b run. subst (λ xs. StartsWith b c.as_slice-events.result.now c.args.run.now.end xs c.ahead-next.result) (sym c.in_ok-push.ensures.items)
      (starts-more b c.as_slice-events.result.now c.args.run.now.end c.loop-next.path.items c.in-Some.number c.ahead-next.result
      (subst (StartsWith b c.as_slice-events.result.now c.args.run.now.end c.loop-next.path.items) c.in-Some.is
      (c.loop-next.invariant.starts b run)));
  within = next-within (g.F.Farm.universe c.args.farm.now) (g.F.Farm.plan c.args.farm.now) c.as_slice-events.result.now c.in-Some.number c.ahead-next.result c.ahead-next.ensures.some;
}

pub returns : goal.returns
returns g c b run =
    subst (λ es. IsCriticalPath (g.F.Farm.universe c.args.farm.now) (g.F.Farm.plan c.args.farm.now) b es c.args.run.now.end c.loop-next.path.items) c.as_slice-events.ensures.value
    (ends-path (g.F.Farm.universe c.args.farm.now) (g.F.Farm.plan c.args.farm.now) b c.as_slice-events.result.now c.args.run.now.end c.loop-next.path.items
    (subst (IsLinked (g.F.Farm.universe c.args.farm.now) (g.F.Farm.plan c.args.farm.now) b c.as_slice-events.result.now c.loop-next.path.items) c.in_default.is
    (c.loop-next.invariant.linked b run))
    (subst (StartsWith b c.as_slice-events.result.now c.args.run.now.end c.loop-next.path.items) c.in_default.is
    (c.loop-next.invariant.starts b run)))
