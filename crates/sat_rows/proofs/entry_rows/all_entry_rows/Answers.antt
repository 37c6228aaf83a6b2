use Rattle.std.proofs.Common.{◌≡◌, ◌-◌, ◌<◌, Bool, length, [], IfOk, ap, subst, ◌∙◌, arith}
use Rattle.std.specs.List.{AllZip, range_with_len}
use Rattle.std.specs.declared.alloc.AllocError.{AllocError}
use Rattle.std.proofs.lemmas.Option.{slice_get_within}
use Rattle.rayon.specs.Numbers.{nat_range}
use Rattle.rayon.proofs.ToStd.{nat_range-All}
use Rattle.farm_model.specs.Packages.{satisfies_entry}
use Rattle.farm_model.specs.declared.types.Variant.{Variant}
use Rattle.sat_rows.specs.Found.{IsFound}
use Rattle.sat_rows.specs.Links.{nth_list}
use Rattle.sat_rows.specs.Rows.{IsRowOf}
use Rattle.sat_rows.proofs.Gathered.{gathered}
use Rattle.sat_rows.proofs.entry_rows.all_entry_rows.Goals as goal

pub collect-requires-clause-ready : goal.collect-requires-clause-ready
collect-requires-clause-ready g c κs within =
    let ends = c.into_par_iter.ensures in
    let n = length c.args.sets.now in
    let inside = nat_range-All (λ i. i < n) 0 n (λ i low high. high) in
    rw (c.map.ensures.base, c.map.ensures.f, c.with_min_len.ensures.base, ends.0, ends.1)
    (λ k d lt. (inside k d lt, λ y p. tt))

pub returns : goal.returns
returns g c entries are =
    let u = c.args.universe.now in
    let sets = c.args.sets.now in
    let n = length sets in
    let ends = c.into_par_iter.ensures in
    let start = ap (λ it. it.base.start) c.map.ensures.base
    ∙ (ap (λ it. it.start) c.with_min_len.ensures.base ∙ ends.0) in
    let end = ap (λ it. it.base.end) c.map.ensures.base
    ∙ (ap (λ it. it.end) c.with_min_len.ensures.base ∙ ends.1) in
    let whole : n - 0 ≡ n = omega arith in
    let h = c.in_ok-collect.ensures in
    let made = rw (c.in_ok-rows.was) at h.2 in
    let places = h.1.1 ∙ ((λ i. nat_range (start i) (end i)) ∙ ap (range_with_len 0) whole) in
    let called =
    subst (λ f. AllZip (λ n row. IfOk row
    (λ row. (p : Variant → Bool) → IsFound f.1.now p (nth_list f.2.now n)
    → IsRowOf f.1.now p row)) h.1.0 h.0)
    c.map.ensures.f h.1.2 in
    let all =
    gathered AllocError (λ n row. (p : Variant → Bool) → IsFound u p (nth_list sets n)
    → IsRowOf u p row) n h.0 made.0 c.in_ok-rows.rows.items [] h.1.0
    made.1 made.2 places called in
    record {
      long = all.0 ∙ are.long;
      each = λ n e is.
          let lt = slice_get_within entries n e is in
          all.1 n (omega (arith, lt, are.long)) (satisfies_entry u e) (are.each n e is);
    }
