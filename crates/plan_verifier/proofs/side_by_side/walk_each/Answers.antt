use Rattle.std.proofs.Common.{◌≡◌, ◌-◌, ◌<◌, get_or, ap, subst, ◌∙◌, arith}
use Rattle.std.specs.List.{AllZip, range_with_len}
use Rattle.rayon.specs.Numbers.{nat_range}
use Rattle.rayon.proofs.ListFacts.{IfOk-then}
use Rattle.rayon.proofs.ToStd.{nat_range-All}
use Rattle.plan_verifier.specs.Walk.{Walked}
use Rattle.plan_verifier.proofs.SideBySide.{are_walks}
use Rattle.plan_verifier.proofs.side_by_side.walk_each.Goals as goal

pub collect-requires-clause-ready : goal.collect-requires-clause-ready
collect-requires-clause-ready g c κs within =
    let ends = c.into_par_iter.ensures in
    let n = c.args.lanes in
    let inside = nat_range-All (λ i. i < n) 0 n (λ i low high. high) in
    rw (c.map.ensures.base, c.map.ensures.f, c.with_min_len.ensures.base, ends.0, ends.1)
    (λ k d lt. (
      (
        c.requires.ready,
        subst (λ m. get_or (nat_range 0 n) k d < m) c.requires.lanes (inside k d lt),
      ),
      λ y p. tt,
    ))

pub returns : goal.returns
returns g c =
    let n = c.args.lanes in
    let walks = c.args.walks.now in
    let ends = c.into_par_iter.ensures in
    let start = ap (λ it. it.base.start) c.map.ensures.base
    ∙ (ap (λ it. it.start) c.with_min_len.ensures.base ∙ ends.0) in
    let end = ap (λ it. it.base.end) c.map.ensures.base
    ∙ (ap (λ it. it.end) c.with_min_len.ensures.base ∙ ends.1) in
    let whole : n - 0 ≡ n = omega arith in
    IfOk-then c.collect.result _ _ c.collect.ensures (λ v h.
    let places = h.1.1 ∙ ((λ i. nat_range (start i) (end i)) ∙ ap (range_with_len 0) whole) in
    let called =
    subst
    (λ f. AllZip (Walked (g.W.LaneWalks.universe f.0.now) (g.W.LaneWalks.plan f.0.now)
    (g.W.LaneWalks.rows f.0.now)) h.1.0 h.0) c.map.ensures.f h.1.2 in
    are_walks
    (Walked (g.W.LaneWalks.universe walks) (g.W.LaneWalks.plan walks) (g.W.LaneWalks.rows walks))
    n v.items h.1.0 places
    (rw h.2 called))
