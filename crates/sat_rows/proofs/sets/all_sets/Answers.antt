use Rattle.std.proofs.Common.{◌≡◌, ◌-◌, ◌<◌, length, [], Some, IfOk, ap, subst, ◌∙◌, arith}
use Rattle.std.specs.List.{AllZip, slice_get, range_with_len}
use Rattle.std.specs.declared.alloc.AllocError.{AllocError}
use Rattle.std.proofs.lemmas.Option.{slice_get_within}
use Rattle.rayon.specs.Numbers.{nat_range}
use Rattle.rayon.proofs.ToStd.{nat_range-All}
use Rattle.deb_relation.specs.Relations.{Entry}
use Rattle.farm_model.specs.Packages.{satisfies_entry}
use Rattle.sat_rows.specs.Found.{IsFound}
use Rattle.sat_rows.proofs.Gathered.{gathered}
use Rattle.sat_rows.proofs.sets.all_sets.Goals as goal

pub collect-requires-clause-ready : goal.collect-requires-clause-ready
collect-requires-clause-ready g c κs within =
    let ends = c.into_par_iter.ensures in
    let n = length c.args.entries.now in
    let inside = nat_range-All (λ i. i < n) 0 n (λ i low high. high) in
    rw (
      c.map.ensures.base,
      c.map.ensures.f,
      c.with_min_len.ensures.base,
      ends.0,
      ends.1,
      c.len.ensures,
    )
    (λ k d lt. ((c.requires, inside k d lt), λ y p. tt))

pub returns : goal.returns
returns g c =
    let u = c.args.universe.now in
    let entries = c.args.entries.now in
    let n = length entries in
    let ends = c.into_par_iter.ensures in
    let start = ap (λ it. it.base.start) c.map.ensures.base
    ∙ (ap (λ it. it.start) c.with_min_len.ensures.base ∙ ends.0) in
    let end = ap (λ it. it.base.end) c.map.ensures.base
    ∙ (ap (λ it. it.end) c.with_min_len.ensures.base ∙ (ends.1 ∙ c.len.ensures)) in
    let whole : n - 0 ≡ n = omega arith in
    let h = c.in_ok-collect.ensures in
    let made = rw (c.in_ok-sets.was) at h.2 in
    let places = h.1.1 ∙ ((λ i. nat_range (start i) (end i)) ∙ ap (range_with_len 0) whole) in
    let called =
    subst (λ f. AllZip (λ n row. IfOk row
    (λ row. (e : Entry) → slice_get f.3.now n ≡ Some e
    → IsFound f.1.now (satisfies_entry f.1.now e) row)) h.1.0 h.0)
    c.map.ensures.f h.1.2 in
    let all =
    gathered AllocError (λ n row. (e : Entry) → slice_get entries n ≡ Some e
    → IsFound u (satisfies_entry u e) row) n h.0 made.0 c.in_ok-sets.sets.items [] h.1.0
    made.1 made.2 places called in
    record { long = all.0; each = λ n e is. all.1 n (slice_get_within entries n e is) e is }
