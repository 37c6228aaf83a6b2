use Rattle.std.proofs.Common.{◌≡◌, ◌<◌, ◌+◌, ◌++◌, [], ◌∷◌, length, All, Some, sym, ap, subst, ◌∙◌, arith}
use Rattle.std.proofs.lemmas.List.Elements.{All-push}
use Rattle.plan_model.specs.Plan.{lane, instruction_at}
use Rattle.plan_cert.specs.Origins.{HasPublishes}
use Rattle.plan_cert.proofs.OriginLaws.{publish_more, publish_none}
use Rattle.known_rows.proofs.ReadAt.{read_at}
use Rattle.plan_cert.proofs.origins.lane_publishes.Goals as goal
use Rattle.plan_cert.proofs.origins.lane_publishes.Goals.{in-Some+in_ok-push, in_default}

pub loop-place-preserved : goal.loop-place-preserved
loop-place-preserved c =
    let p = c.args.plan.now.lanes in
    let l = c.args.number in
    let n = c.loop-place.place in
    let x = c.index-instructions-place.result in
    let old = c.loop-place.places.items in
    let xs = c.instructions-instructions.ensures ∙ ap (λ of. of.instructions) c.lane.ensures in
    let lt : n < length (lane p l).instructions = omega
    (arith, ap length xs, c.loop-place-test.true) in
    let at : instruction_at p l n ≡ Some x =
    read_at p l c.instructions-instructions.result.now n x xs (omega (arith, lt, ap length xs))
    c.index-instructions-place.is in
    elim c.match-published.branch [
      | in-Some+in_ok-push w ↦
          let is : c.match-published.places.items ≡ old ++ n ∷ [] =
          cc (w.places-is, w.in_ok-push.ensures.items) in
          record {
            inside = subst (λ ps. All (λ i. i < length (lane p l).instructions) ps) (sym is)
                (All-push (λ i. i < length (lane p l).instructions) old n
                c.loop-place.invariant.inside lt);
            has = subst (HasPublishes p l (n + 1)) (sym is)
                (publish_more p l n old c.loop-place.invariant.has);
          }
      | in_default w ↦
          let is : c.match-published.places.items ≡ old = cc w.places-is in
          record {
            inside = subst (λ ps. All (λ i. i < length (lane p l).instructions) ps) (sym is)
                c.loop-place.invariant.inside;
            has = subst (HasPublishes p l (n + 1)) (sym is)
                (publish_none p l n old x at w.in_default.ensures.none c.loop-place.invariant.has);
          }
    ]
