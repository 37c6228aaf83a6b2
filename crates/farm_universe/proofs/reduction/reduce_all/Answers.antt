use Rattle.std.proofs.Common.{◌<◌, ◌∙◌, ap, sym, set, map, length, arith, slice_index_or}
use Rattle.std.proofs.lemmas.List.{length-map, get_or-map, map-set, with_items_is}
use Rattle.std.proofs.lemmas.List.Edits.{map_over_more}
use Rattle.deb_text.specs.Lists.{lists}
use Rattle.farm_universe.specs.Land.{reduced_package}
use Rattle.farm_universe.proofs.reduction.reduce_all.Goals as goal

pub loop-named-preserved : goal.loop-named-preserved
loop-named-preserved c =
    let reduced = map (reduced_package c.args.architectures.now) in
    let given = lists c.args.packages.now in
    let now = c.loop-named.packages in
    let at = c.loop-named.named-index in
    let item = c.named-item.result in
    let short : at < length now = omega (arith, c.loop-named-test.true) in
    let within : at < length given =
    omega (arith, short, length-map c.args.packages.now (λ v. v.items)) in
    let is = ap (λ v. v.items) c.named-item.is in
    let size =
    ap length c.in_ok-reduce_packages.ensures ∙ length-map _ _ ∙ c.deref_mut.ensures.len in
    let left =
    with_items_is (slice_index_or now at item) c.reduce_packages.new.packages size
    ∙ c.in_ok-reduce_packages.ensures
    ∙ ap reduced (c.deref_mut.ensures.value ∙ sym is) in
    map-set (λ v. v.items) now at _
    ∙ ap (set (lists now) at) left
    ∙ map_over_more reduced given (lists now) at item.items within c.loop-named.invariant
    (is ∙ sym (get_or-map (λ v. v.items) now at item item.items short))
