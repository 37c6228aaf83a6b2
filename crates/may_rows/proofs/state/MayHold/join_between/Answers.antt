use Rattle.std.proofs.Common.{◌≡◌, refl, ap, ◌∙◌, subst, arith}
use Rattle.plan_model.specs.Common.{is_same_phase, joined_slot, May}
use Rattle.may_rows.specs.Joins.{joined_below}
use Rattle.may_rows.specs.Words.{may_of}
use Rattle.may_rows.proofs.JoinMaps.{slot-other, below-next, below-stays}
use Rattle.may_rows.proofs.state.MayHold.join_between.Goals as goal

pub returns-then-holds_same-clause-map : goal.returns-then-holds_same-clause-map
returns-then-holds_same-clause-map c m so_far =
    below-stays c.args.universe.now c.args.first.now c.args.self.now c.requires.words m
    c.args.from c.args.to c.requires.order (c.holds_same.ensures c.if-holds_same.true) so_far

pub loop-name-init : goal.loop-name-init
loop-name-init c = record {
  low = omega arith;
  words = c.requires.words;
  map = λ m so_far. so_far;
  others = λ k ge. refl;
}

pub join_name-requires-clause-phase : goal.join_name-requires-clause-phase
join_name-requires-clause-phase c =
    let name = c.loop-name.name in
    ap (is_same_phase ((may_of c.args.first.now).slots name))
    (c.loop-name.invariant.others name (omega arith))
    ∙ c.requires.phases name c.loop-name.invariant.low c.loop-name-test.true

pub loop-name-preserved : goal.loop-name-preserved
loop-name-preserved c =
    let u = c.args.universe.now in
    let first = may_of c.args.first.now in
    let name = c.loop-name.name in
    let old = may_of c.loop-name.self in
    let so_far = c.loop-name.invariant in
    let map = c.join_name.ensures.map in
    record {
      low = omega (arith, so_far.low);
      words = c.join_name.ensures.words;
      map = λ m from. below-next u first m name old (may_of c.join_name.new.self)
          (so_far.map m from) map;
      others = λ k ge. ap (λ (m : May). m.slots k) map
          ∙ slot-other old name k (joined_slot u name (first.slots name) (old.slots name))
          (omega (arith, ge))
          ∙ so_far.others k (omega (arith, ge));
    }

pub returns-clause-map : goal.returns-clause-map
returns-clause-map c m from =
    let whole : c.loop-name.name ≡ c.args.to =
    omega (arith, c.loop-name-test.false, c.requires.order) in
    subst
    (λ k. may_of c.loop-name.self
    ≡ joined_below c.args.universe.now (may_of c.args.first.now) k m)
    whole (c.loop-name.invariant.map m from)
