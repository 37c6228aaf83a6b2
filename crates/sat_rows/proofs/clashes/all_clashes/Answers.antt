use Rattle.std.proofs.Common.{◌≡◌, ◌-◌, ◌<◌, length, None, IfOk, ap, subst, ◌∙◌, arith}
use Rattle.std.specs.List.{AllZip, range_with_len}
use Rattle.std.specs.declared.alloc.AllocError.{AllocError}
use Rattle.rayon.specs.Numbers.{nat_range}
use Rattle.rayon.proofs.ToStd.{nat_range-All}
use Rattle.farm_model.specs.Packages.{recipe, satisfies_any}
use Rattle.sat_rows.specs.Rows.{IsSharedRow}
use Rattle.sat_rows.proofs.Gathered.{gathered}
use Rattle.sat_rows.proofs.clashes.all_clashes.Goals as goal

pub collect-requires-clause-ready : goal.collect-requires-clause-ready
collect-requires-clause-ready g c κs within =
    let ends = c.into_par_iter.ensures in
    let n = length c.args.universe.now.recipes in
    let inside = nat_range-All (λ i. i < n) 0 n (λ i low high. high) in
    rw (
      c.map.ensures.base,
      c.map.ensures.f,
      c.with_min_len.ensures.base,
      ends.0,
      ends.1,
      c.recipes.ensures,
    )
    (λ k d lt. ((c.requires, inside k d lt), λ y p. tt))

pub returns : goal.returns
returns g c =
    let u = c.args.universe.now in
    let n = length u.recipes in
    let ends = c.into_par_iter.ensures in
    let start = ap (λ it. it.base.start) c.map.ensures.base
    ∙ (ap (λ it. it.start) c.with_min_len.ensures.base ∙ ends.0) in
    let end = ap (λ it. it.base.end) c.map.ensures.base
    ∙ (ap (λ it. it.end) c.with_min_len.ensures.base ∙ (ends.1 ∙ c.recipes.ensures)) in
    let whole : n - 0 ≡ n = omega arith in
    let h = c.in_ok-collect.ensures in
    let made = rw (c.in_ok-rows.was) at h.2 in
    let places = h.1.1 ∙ ((λ i. nat_range (start i) (end i)) ∙ ap (range_with_len 0) whole) in
    let called =
    subst (λ f. AllZip (λ r row. IfOk row
    (λ row. IsSharedRow f.1.now (satisfies_any f.1.now (recipe f.1.now r).clashes) row)) h.1.0
    h.0)
    c.map.ensures.f h.1.2 in
    let all =
    gathered AllocError (λ r row. IsSharedRow u (satisfies_any u (recipe u r).clashes) row) n h.0
    made.0 c.in_ok-rows.rows.items None h.1.0
    made.1 made.2 places called in
    record { long = all.0; each = all.1 }
