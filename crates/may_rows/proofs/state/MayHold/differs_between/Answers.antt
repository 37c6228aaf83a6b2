use Rattle.std.proofs.Common.{◌≡◌, ◌≤◌, true, sym, ◌∙◌, arith}
use Rattle.plan_model.specs.Join.{is_same_phase}
use Rattle.may_rows.specs.Words.{may_of}
use Rattle.may_rows.proofs.JoinMaps.{phases-part, phase-same, below-more}
use Rattle.may_rows.proofs.state.MayHold.differs_between.Goals as goal

pub returns-then-holds_same-clause-none : goal.returns-then-holds_same-clause-none
returns-then-holds_same-clause-none c none n low high =
    phase-same ((may_of c.args.first.now).slots n) ((may_of c.args.self.now).slots n)
    (c.holds_same.ensures c.if-holds_same.true n low high)

pub loop-name-init : goal.loop-name-init
loop-name-init c = λ k low lt. absurd (omega (arith, low, lt))

pub returns-then-not-is_same_phase-clause-some : goal.returns-then-not-is_same_phase-clause-some
returns-then-not-is_same_phase-clause-some c some =
    sym (phases-part c.args.universe.now c.args.first.now c.args.self.now c.loop-name.name
    (omega (arith, c.loop-name-test.true, c.requires.named))
    (c.is_same_phase.ensures c.args.universe.now c.requires.words c.requires.first)
    c.if-not-is_same_phase.true)

pub loop-name-preserved : goal.loop-name-preserved
loop-name-preserved c =
    λ k low lt. below-more
    {P = λ j. c.args.from ≤ j → is_same_phase ((may_of c.args.first.now).slots j)
    ((may_of c.args.self.now).slots j) ≡ true}
    c.loop-name.name (λ j less from. c.loop-name.invariant j from less)
    (λ from. sym (c.is_same_phase.ensures c.args.universe.now c.requires.words c.requires.first)
    ∙ c.if-not-is_same_phase.false) k lt low

pub returns-clause-none : goal.returns-clause-none
returns-clause-none c none n low high =
    c.loop-name.invariant n low (omega (arith, high, c.loop-name-test.false))
