use Rattle.std.proofs.Common.{◌≡◌, refl, sym, ap, subst, ◌∙◌, arith}
use Rattle.plan_model.specs.Common.{May, Lane, lane, no_lane}
use Rattle.may_rows.specs.Met.{AreDoubts}
use Rattle.may_rows.specs.Words.{may_of}
use Rattle.plan_verifier.specs.Branch.{IsAt}
use Rattle.plan_verifier.proofs.Branching.{nothing_known}
use Rattle.plan_verifier.proofs.walk.walk_to.Goals as goal

pub loop-place-init : goal.loop-place-init
loop-place-init g c =
    let u = c.args.stage.now.universe.now in
    let p = c.args.stage.now.plan.now.lanes in
    let same : lane p c.args.number ≡ c.lane-lane.result.now = sym c.lane-lane.ensures in
    let map = c.in_ok-of_base.ensures.map (lane p c.args.number)
    (ap (λ (o : Lane). o.base) same ∙ sym c.base.ensures) in
    let free : c.in_ok-of_base.field-0.cost ≡ 0 = ap (λ (m : May). m.cost) map in
    record {
      at = record {
        here = sym map;
        of_lane = record {
          based = c.requires.stage.sound.plan.bases c.args.number c.requires.lane;
          small = c.lanes-lanes.ensures.limits.budgets c.args.number no_lane c.requires.lane;
          words = c.in_ok-of_base.ensures.words;
          within = omega (arith, free);
        };
        doubts = subst (AreDoubts u (may_of c.in_ok-of_base.field-0)) (sym c.new.ensures)
            (nothing_known u (may_of c.in_ok-of_base.field-0));
        branch = refl;
      };
      safe = λ k lt. absurd (omega arith);
    }

pub returns : goal.returns
returns g c =
    let u = c.args.stage.now.universe.now in
    let p = c.args.stage.now.plan.now.lanes in
    let rows = (g.K.KnownWords.known c.args.stage.now.known.now).rows in
    let end : c.loop-place.place ≡ c.args.end = omega arith in (
      λ k lt. c.loop-place.invariant.safe k (omega arith),
      subst (λ i. IsAt u p rows c.args.number i c.loop-place.may) end c.loop-place.invariant.at,
    )
