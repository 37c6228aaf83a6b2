use Rattle.std.proofs.Common.{suc, inl, inr, sym, subst, arith}
use Rattle.std.proofs.lemmas.Bool.{cases_eq}
use Rattle.verdict_laws.specs.Places.{IsJustified}
use Rattle.plan_cert.specs.PlaceRows.{place_rows_of}
use Rattle.plan_cert.proofs.justified.check_rows.Goals as goal

pub loop-number-preserved : goal.loop-number-preserved
loop-number-preserved c = λ j k lt.
    elim (cases_eq j c.loop-number.number) [
      | inl here ↦
          subst (λ n. IsJustified c.args.claim.universe.now c.args.claim.plan.now.lanes
          (place_rows_of c.args.claim.known.now) n (suc k)) (sym here)
          (c.in_ok-check_lane.ensures k)
      | inr other ↦ c.loop-number.invariant j k (omega (arith, lt, other))
    ]
