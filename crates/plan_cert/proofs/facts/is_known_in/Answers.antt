use Rattle.std.proofs.Common.{◌==◌, inl, inr, refl, sym, subst, arith}
use Rattle.std.specs.Prelude.{slice_index}
use Rattle.std.proofs.lemmas.Bool.{cases_eq, eqb-true}
use Rattle.std.proofs.lemmas.Option.{slice_get_within}
use Rattle.may_rows.proofs.ByNumber.{any-found}
use Rattle.plan_model.specs.Plan.{lane}
use Rattle.plan_cert.specs.Facts.{IsKnownAt}
use Rattle.plan_cert.specs.Stated.{in_row}
use Rattle.plan_cert.specs.PlaceRows.{place_rows_of}
use Rattle.plan_cert.proofs.facts.is_known_in.Goals as goal

pub loop-n-preserved : goal.loop-n-preserved
loop-n-preserved c = λ k lt.
    let places = c.args.places.now in
    elim (cases_eq k c.loop-n.n) [
      | inl here ↦
          subst (λ n. IsKnownAt c.args.question.claim.universe.now
          c.args.question.claim.plan.now.lanes (place_rows_of c.args.question.claim.known.now)
          (in_row c.args.question.sources.now) (in_row c.args.question.new.now) c.args.number
          (slice_index places n)) (sym here)
          (c.in_ok-is_known_at.ensures.0 c.if-not-branch.false)
      | inr other ↦ c.loop-n.invariant k (omega (arith, lt, other))
    ]

pub returns : goal.returns
returns c = (
  λ e k r at.
      let u = c.args.question.claim.universe.now in
      let p = c.args.question.claim.plan.now.lanes in
      let l = c.args.number in
      let places = c.args.places.now in
      let lt = slice_get_within (lane p l).instructions k _ at in
      let n = any-found (λ j. j == k) 0 places (c.requires.places.has k r lt at) in
      subst
      (λ j. IsKnownAt u p (place_rows_of c.args.question.claim.known.now)
      (in_row c.args.question.sources.now) (in_row c.args.question.new.now) l j)
      (eqb-true (slice_index places n.0) k n.2)
      (c.loop-n.invariant n.0 (omega (arith, n.1, c.loop-n-test.false))) r at,
  λ h. refl,
)
