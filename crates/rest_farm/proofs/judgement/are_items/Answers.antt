use Rattle.std.proofs.Common.{◌≡◌, ◌∙◌, ◌<◌, true, Some, length, ap, sym, arith}
use Rattle.std.proofs.lemmas.Option.{slice_get-get_or}
use Rattle.farm_model.specs.declared.types.Variant.{Variant}
use Rattle.leg_laws.specs.Named.{Item, is_equal_item, item_of}
use Rattle.rest_farm.proofs.RestLaws.{pairs_next}
use Rattle.rest_farm.proofs.judgement.are_items.Goals as goal

pub loop-at-preserved : goal.loop-at-preserved
loop-at-preserved c =
    let items = c.args.items.now in
    let variants = c.args.variants.now in
    let k = c.loop-at.at in
    let i = c.index-items-at.result in
    let lt : k < length items = omega arith in
    let long : k < length variants = omega arith in
    pairs_next
    (λ (i : Item) (x : Variant). is_equal_item i (item_of c.args.farm.now x) ≡ true) items variants
    k i _ (slice_get-get_or items k i lt ∙ ap Some (sym c.index-items-at.is))
    (slice_get-get_or variants k _ long) (c.is_variant.ensures c.if-not-is_variant.false)
    c.loop-at.invariant
