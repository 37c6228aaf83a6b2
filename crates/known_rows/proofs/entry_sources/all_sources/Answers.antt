use Rattle.std.proofs.Common.{◌≡◌, ◌-◌, ◌<◌, length, [], Some, IfOk, ap, subst, ◌∙◌, arith}
use denote.Param.Send.{sendable}
use Rattle.std.proofs.Crossing.{crosses}
use Rattle.std.specs.List.{AllZip, slice_get, range_with_len}
use Rattle.std.specs.declared.alloc.AllocError.{AllocError}
use Rattle.std.proofs.lemmas.Option.{slice_get_within, get_or_from_slice_get}
use Rattle.rayon.specs.Numbers.{nat_range}
use Rattle.rayon.proofs.ToStd.{nat_range-All}
use Rattle.deb_relation.specs.Relations.{Entry}
use Rattle.sat_rows.proofs.Gathered.{gathered}
use Rattle.known_rows.specs.Hits.{AreEntrySources}
use Rattle.known_rows.proofs.Crossing.{supply_sync, supply_send, entries_sync}
use Rattle.known_rows.proofs.EntryLaws.{for_each}
use Rattle.known_rows.proofs.entry_sources.all_sources.Goals as goal

pub map-requires-send-F : goal.map-requires-send-F
map-requires-send-F g c κs within =
    search (supply_send, entries_sync, crosses, sendable) depth 40

pub map-requires-sync-F : goal.map-requires-sync-F
map-requires-sync-F g c κs within = search (supply_sync, entries_sync, crosses, sendable) depth 20

pub collect-requires-send-Self : goal.collect-requires-send-Self
collect-requires-send-Self g c κs within =
    search (supply_send, entries_sync, crosses, sendable) depth 40

pub collect-requires-clause-ready : goal.collect-requires-clause-ready
collect-requires-clause-ready g c κs within =
    let ends = c.into_par_iter.ensures in
    let n = length c.args.entries.now in
    let inside = nat_range-All (λ i. i < n) 0 n (λ i low high. high) in
    rw (
      c.map.ensures.base,
      c.map.ensures.f,
      c.with_min_len.ensures.base,
      ends.0,
      ends.1,
      c.len.ensures,
    )
    (λ k d lt. ((c.requires, inside k d lt), λ y p. tt))

pub returns : goal.returns
returns g c =
    let u = c.args.supply.universe.now in
    let p = c.args.supply.plan.now.lanes in
    let es = c.args.entries.now in
    let n = length es in
    let ends = c.into_par_iter.ensures in
    let start = ap (λ it. it.base.start) c.map.ensures.base
    ∙ (ap (λ it. it.start) c.with_min_len.ensures.base ∙ ends.0) in
    let end = ap (λ it. it.base.end) c.map.ensures.base
    ∙ (ap (λ it. it.end) c.with_min_len.ensures.base ∙ (ends.1 ∙ c.len.ensures)) in
    let whole : n - 0 ≡ n = omega arith in
    let h = c.in_ok-collect.ensures in
    let made = rw (c.in_ok-all.was) at h.2 in
    let places = h.1.1 ∙ ((λ i. nat_range (start i) (end i)) ∙ ap (range_with_len 0) whole) in
    let called =
    subst (λ f. AllZip (λ n ss. IfOk ss
    (λ ss. (e : Entry) → slice_get f.2.now n ≡ Some e
    → AreEntrySources f.1.universe.now f.1.plan.now.lanes e ss)) h.1.0 h.0)
    c.map.ensures.f h.1.2 in
    let all =
    gathered AllocError (λ n ss. (e : Entry) → slice_get es n ≡ Some e
    → AreEntrySources u p e ss) n h.0 made.0 c.in_ok-all.all.items [] h.1.0
    made.1 made.2 places called in
    let vs = c.in_ok-all.all.items in
    record {
      long = all.0;
      each = for_each (AreEntrySources u p) es vs all.0
          (λ k v at e is. subst (AreEntrySources u p e) (get_or_from_slice_get vs k v [] at)
          (all.1 k (slice_get_within es k e is) e is));
    }
