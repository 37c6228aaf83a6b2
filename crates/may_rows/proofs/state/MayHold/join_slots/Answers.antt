use Rattle.std.proofs.Common.{◌≡◌, ap, ◌∙◌, subst, arith}
use Rattle.plan_model.specs.Common.{is_same_phase, May}
use Rattle.farm_model.specs.Packages.{names}
use Rattle.may_rows.specs.Joins.{joined_below}
use Rattle.may_rows.specs.Words.{may_of}
use Rattle.may_rows.proofs.JoinMaps.{below-zero, below-rest, phases-same}
use Rattle.may_rows.proofs.state.MayHold.join_slots.Goals as goal

pub loop-from-init : goal.loop-from-init
loop-from-init c = record {
  inside = omega arith;
  words = c.requires.words;
  map = below-zero c.args.universe.now (may_of c.args.first.now) (may_of c.args.self.now);
}

pub join_between-requires-clause-phases : goal.join_between-requires-clause-phases
join_between-requires-clause-phases c n low high =
    let u = c.args.universe.now in
    let first = may_of c.args.first.now in
    ap (is_same_phase (first.slots n))
    (ap (λ (m : May). m.slots n) c.loop-from.invariant.map
    ∙ below-rest u first (may_of c.args.self.now) c.loop-from.from n low)
    ∙ phases-same u c.args.first.now c.args.self.now n
    (omega (arith, high, c.names-names.ensures.number, c.loop-from.invariant.inside))
    c.requires.phases

pub loop-from-preserved : goal.loop-from-preserved
loop-from-preserved c = record {
  inside = omega (arith, c.loop-from.invariant.inside);
  words = c.join_between.ensures.words;
  map = c.join_between.ensures.map (may_of c.args.self.now) c.loop-from.invariant.map;
}

pub returns-clause-map : goal.returns-clause-map
returns-clause-map c =
    let whole : c.loop-from.from ≡ names c.args.universe.now =
    omega (
      arith,
      c.loop-from.invariant.inside,
      c.loop-from-test.false,
      c.names-names.ensures.number,
    ) in
    subst
    (λ k. may_of c.loop-from.self ≡ joined_below c.args.universe.now (may_of c.args.first.now) k
    (may_of c.args.self.now))
    whole c.loop-from.invariant.map
