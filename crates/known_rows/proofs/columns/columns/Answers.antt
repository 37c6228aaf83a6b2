use Rattle.std.proofs.Common.{◌≡◌, ◌-◌, ◌<◌, length, [], IfOk, ap, subst, ◌∙◌, arith}
use Rattle.std.specs.List.{AllZip, range_with_len}
use Rattle.std.specs.declared.alloc.AllocError.{AllocError}
use Rattle.rayon.specs.Numbers.{nat_range}
use Rattle.rayon.proofs.ToStd.{nat_range-All}
use Rattle.sat_rows.proofs.Gathered.{gathered}
use Rattle.known_rows.specs.Columns.{IsLaneColumn}
use Rattle.known_rows.proofs.ColumnLaws.{columns_are}
use Rattle.known_rows.proofs.columns.columns.Goals as goal

pub collect-requires-clause-ready : goal.collect-requires-clause-ready
collect-requires-clause-ready g c κs within =
    let ends = c.into_par_iter.ensures in
    let n = length c.args.lanes.now in
    let inside = nat_range-All (λ i. i < n) 0 n (λ i low high. high) in
    rw (c.map.ensures.base, c.map.ensures.f, c.with_min_len.ensures.base, ends.0, ends.1)
    (λ k d lt. ((c.requires.placed, (c.requires.visit, inside k d lt)), λ y p. tt))

pub returns : goal.returns
returns g c u p are =
    let lanes = c.args.lanes.now in
    let ps = c.args.points.now in
    let n = length lanes in
    let ends = c.into_par_iter.ensures in
    let start = ap (λ it. it.base.start) c.map.ensures.base
    ∙ (ap (λ it. it.start) c.with_min_len.ensures.base ∙ ends.0) in
    let end = ap (λ it. it.base.end) c.map.ensures.base
    ∙ (ap (λ it. it.end) c.with_min_len.ensures.base ∙ ends.1) in
    let whole : n - 0 ≡ n = omega arith in
    let h = c.in_ok-collect.ensures in
    let made = rw (c.in_ok-columns.was) at h.2 in
    let places = h.1.1 ∙ ((λ i. nat_range (start i) (end i)) ∙ ap (range_with_len 0) whole) in
    let called =
    subst (λ f. AllZip (λ n xs. IfOk xs (IsLaneColumn f.1.now f.2.now n)) h.1.0 h.0)
    c.map.ensures.f h.1.2 in
    let all =
    gathered AllocError (IsLaneColumn lanes ps) n h.0 made.0 c.in_ok-columns.columns.items []
    h.1.0 made.1 made.2 places called in
    columns_are u p lanes ps c.in_ok-columns.columns.items are all.0 all.1
