use Rattle.std.proofs.Common.{◌≡◌, ◌+◌, ◌++◌, length, Some, sym, ap, ◌∙◌, arith}
use Rattle.plan_model.specs.Plan.{lane}
use Rattle.explain_reasons.specs.Listed.{all_below, first_below}
use Rattle.explain_reasons.specs.Removals.{lane_hazard, looked_at, place_hazard, place_left}
use Rattle.explain_reasons.proofs.FirstLaws.{all_more, first_below-at, none_more}
use Rattle.explain_reasons.proofs.along.look_along.Goals as goal

pub returns-in-Some : goal.returns-in-Some
returns-in-Some g c =
    let u = c.args.stage.now.universe.now in
    let p = c.args.stage.now.plan.now.lanes in
    let rows = (g.K.KnownWords.known c.args.stage.now.known.now).rows in
    let l = c.args.number in
    let i = c.loop-place.place in
    let left = place_left u p rows l in
    let first : lane_hazard u p rows l ≡ Some c.in-Some.end =
    first_below-at (length (lane p l).instructions) i (place_hazard u p rows l) c.in-Some.end
    (omega arith) c.loop-place.invariant.none (sym c.in_ok-pass.ensures.hazard ∙ c.in-Some.is) in
    let here : c.in-Some.end.place ≡ i = rw c.in-Some.is at c.in_ok-pass.ensures.place in
    record {
      hazard = sym first;
      left = all_more i left _ _ _ c.loop-place.invariant.left c.in_ok-push_left_at.ensures
          ∙ ap (λ k. c.args.left.now.items ++ all_below k left)
          (sym (ap (looked_at p l) first ∙ ap (λ k. k + 1) here));
    }

pub loop-place-preserved : goal.loop-place-preserved
loop-place-preserved g c =
    let u = c.args.stage.now.universe.now in
    let p = c.args.stage.now.plan.now.lanes in
    let rows = (g.K.KnownWords.known c.args.stage.now.known.now).rows in
    let l = c.args.number in
    let i = c.loop-place.place in
    record {
      left = all_more i (place_left u p rows l) _ _ _ c.loop-place.invariant.left
          c.in_ok-push_left_at.ensures;
      at = c.in_ok-pass.ensures.behind c.in-None.is;
      none = none_more i (place_hazard u p rows l) c.loop-place.invariant.none
          (sym c.in_ok-pass.ensures.hazard ∙ c.in-None.is);
    }

pub returns : goal.returns
returns g c =
    let u = c.args.stage.now.universe.now in
    let p = c.args.stage.now.plan.now.lanes in
    let rows = (g.K.KnownWords.known c.args.stage.now.known.now).rows in
    let l = c.args.number in
    let hazard = place_hazard u p rows l in
    let left = place_left u p rows l in
    let end : c.loop-place.place ≡ length (lane p l).instructions = omega arith in
    let none = sym (ap (λ k. first_below k hazard) end) ∙ c.loop-place.invariant.none in
    record {
      hazard = sym none;
      left =
          c.loop-place.invariant.left
          ∙ ap (λ k. c.args.left.now.items ++ all_below k left) (end ∙ sym (ap (looked_at p l) none));
    }
