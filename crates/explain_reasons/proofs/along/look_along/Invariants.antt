use Rattle.std.proofs.Common.{◌≡◌, ◌++◌, None}
use Rattle.plan_verifier.specs.Branch.{IsAt}
use Rattle.explain_reasons.specs.Listed.{all_below, first_below}
use Rattle.explain_reasons.specs.Removals.{place_hazard, place_left}
use Rattle.explain_reasons.proofs.along.look_along.Given as goal

-- what the places so far leave, and what may be held at this one
abbrev pub invariant-loop-place : goal.invariant-loop-place
invariant-loop-place g l =
    let u = l.stage.universe.now in
    let p = l.stage.plan.now.lanes in
    let rows = (g.K.KnownWords.known l.stage.known.now).rows in
    record {
      left : l.left.items ≡ l.fn.left.items ++ all_below l.place (place_left u p rows l.number);
      at : IsAt u p rows l.number l.place l.may;
      none : first_below l.place (place_hazard u p rows l.number) ≡ None;
    }
