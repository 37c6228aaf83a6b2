use Rattle.std.proofs.Common.{inl, inr, sym, arith}
use Rattle.std.proofs.lemmas.Bool.{cases_lt}
use Rattle.may_rows.proofs.JoinMaps.{phases-none}
use Rattle.may_rows.proofs.state.MayHold.phases_differ.Goals as goal

pub loop-from-init : goal.loop-from-init
loop-from-init c = record {
  inside = omega arith;
  same = λ k lt. absurd (omega (arith, lt));
}

pub returns-then-differs_between : goal.returns-then-differs_between
returns-then-differs_between c =
    sym (c.differs_between.ensures.some c.if-differs_between.true)

pub loop-from-preserved : goal.loop-from-preserved
loop-from-preserved c =
    let so_far = c.loop-from.invariant in
    record {
      inside = omega (arith, so_far.inside);
      same = λ k lt. elim (cases_lt k c.loop-from.from) [
        | inl less ↦ so_far.same k less
        | inr low ↦ c.differs_between.ensures.none c.if-differs_between.false k low lt
      ];
    }

pub returns : goal.returns
returns c =
    sym (phases-none c.args.universe.now c.args.first.now c.args.self.now
    (λ k lt. c.loop-from.invariant.same k (omega (
      arith,
      lt,
      c.names-names.ensures.number,
      c.loop-from-test.false,
    ))))
