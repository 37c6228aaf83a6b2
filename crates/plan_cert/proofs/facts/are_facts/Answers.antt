use Rattle.std.proofs.Common.{ℕ, inl, inr, refl, sym, subst, arith}
use Rattle.std.proofs.lemmas.Bool.{cases_eq, both_ways, false≢true}
use Rattle.plan_cert.specs.Facts.{IsKnownAt}
use Rattle.plan_cert.specs.Stated.{in_row}
use Rattle.plan_cert.proofs.FactLaws.{facts_from, facts_at}
use Rattle.plan_cert.specs.PlaceRows.{place_rows_of}
use Rattle.plan_cert.proofs.facts.are_facts.Goals as goal

pub returns-then-not-is_initial : goal.returns-then-not-is_initial
returns-then-not-is_initial c = (
  λ e. absurd (false≢true e),
  λ facts. absurd (both_ways c.is_initial.result c.if-not-is_initial.true
      (c.is_initial.ensures.1 (λ w v hit here. (facts w v hit here).from_start))),
)

pub returns-then-not-branch : goal.returns-then-not-branch
returns-then-not-branch c = (
  λ e. absurd (false≢true e),
  λ facts. absurd (both_ways c.in_ok-is_known_in.field-0 c.if-not-branch.true
      (c.in_ok-is_known_in.ensures.1
      (facts_at c.args.question.claim.universe.now c.args.question.claim.plan.now.lanes
      (place_rows_of c.args.question.claim.known.now)
      (in_row c.args.question.sources.now) (in_row c.args.question.new.now) facts
      c.loop-number.number
      (omega (arith, c.loop-number-test.true, c.lanes-number-end.ensures.lanes))))),
)

pub loop-number-preserved : goal.loop-number-preserved
loop-number-preserved c = λ j lt.
    elim (cases_eq j c.loop-number.number) [
      | inl here ↦
          subst (λ n. (k : ℕ) → IsKnownAt c.args.question.claim.universe.now
          c.args.question.claim.plan.now.lanes
          (place_rows_of c.args.question.claim.known.now) (in_row c.args.question.sources.now)
          (in_row c.args.question.new.now) n k)
          (sym here) (c.in_ok-is_known_in.ensures.0 c.if-not-branch.false)
      | inr other ↦ c.loop-number.invariant j (omega (arith, lt, other))
    ]

pub returns : goal.returns
returns c = (
  λ e. facts_from c.args.question.claim.universe.now c.args.question.claim.plan.now.lanes
      (place_rows_of c.args.question.claim.known.now)
      (in_row c.args.question.sources.now) (in_row c.args.question.new.now)
      (λ j lt. c.loop-number.invariant j
      (omega (arith, lt, c.lanes-number-end.ensures.lanes, c.loop-number-test.false)))
      (c.is_initial.ensures.0 c.if-not-is_initial.false),
  λ h. refl,
)
