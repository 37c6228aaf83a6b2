use Rattle.std.proofs.Common.{◌≡◌, ◌||◌, ◌&&◌, ap, ◌∙◌, arith}
use Rattle.farm_model.specs.Common.{some_below, variant, variants, word_has}
use Rattle.leg_laws.specs.Named.{is_equal_item, is_listed, item_of}
use Rattle.rest_farm.proofs.HeldLaws.{none_yet, some_more}
use Rattle.rest_farm.proofs.left.push_name.Goals as goal

pub loop-bit-init : goal.loop-bit-init
loop-bit-init c item = none_yet (is_listed c.args.list.now.items item)

pub loop-bit-preserved : goal.loop-bit-preserved
loop-bit-preserved c item =
    some_more c.loop-bit.bit
    (λ b. word_has c.args.word b
    && is_equal_item (item_of c.args.universe.now (variant c.args.name b)) item)
    (is_listed c.args.list.now.items item) (is_listed c.loop-bit.list.items item)
    (is_listed c.push_variant.new.list.items item) (c.loop-bit.invariant item)
    (c.in_ok-push_variant.ensures item)

pub returns : goal.returns
returns c item =
    let last : c.loop-bit.bit ≡ variants c.args.universe.now c.args.name =
    omega (arith, c.variant_count-bit-end.ensures.number, c.loop-bit-test.false) in
    c.loop-bit.invariant item
    ∙ ap (λ n. is_listed c.args.list.now.items item || some_below n
    (λ b. word_has c.args.word b
    && is_equal_item (item_of c.args.universe.now (variant c.args.name b)) item)) last
