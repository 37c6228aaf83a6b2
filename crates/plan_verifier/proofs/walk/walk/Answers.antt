use Rattle.std.proofs.Common.{◌≡◌, length, inl, inr, sym, ap, ◌∙◌, arith}
use Rattle.std.proofs.lemmas.Bool.{cases_lt}
use Rattle.std.proofs.lemmas.Option.{slice_get_past}
use Rattle.plan_model.specs.Common.{May, may_at, lane_cost, Lane, lane}
use Rattle.plan_verifier.proofs.Steps.{hazard-past}
use Rattle.plan_verifier.proofs.walk.walk.Goals as goal

pub returns : goal.returns
unfolding lane_cost
returns g c =
    let u = c.args.stage.now.universe.now in
    let p = c.args.stage.now.plan.now.lanes in
    let rows = (g.K.KnownWords.known c.args.stage.now.known.now).rows in
    let xs = (lane p c.args.number).instructions in
    let long : length xs ≡ length c.instructions-end.result.now =
    ap length (sym (c.instructions-end.ensures ∙ ap (λ (o : Lane). o.instructions) c.lane.ensures))
    in (
      λ i. elim (cases_lt i (length c.instructions-end.result.now)) [
        | inl lt ↦ c.in_ok-may.ensures.0 i lt
        | inr past ↦ hazard-past u p rows c.args.number i
            (slice_get_past xs i (omega (arith, long)))
      ],
      c.cost.ensures ∙ sym (ap (λ (m : May). m.cost) c.in_ok-may.ensures.1.here)
          ∙ ap (λ k. (may_at u p rows c.args.number k).cost) (sym long),
    )
