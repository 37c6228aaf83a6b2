use Rattle.std.proofs.Common.{◌≡◌, ◌&&◌, ◌||◌}
use Rattle.farm_model.specs.Common.{some_below, variant, word_has}
use Rattle.leg_laws.specs.Named.{Item, is_equal_item, is_listed, item_of}
use Rattle.rest_farm.proofs.left.push_name.Given as goal

abbrev pub invariant-loop-bit : goal.invariant-loop-bit
invariant-loop-bit l =
    (item : Item) → is_listed l.list.items item
    ≡ (is_listed l.initial.list.items item || some_below l.bit
    (λ b. word_has l.word b && is_equal_item (item_of l.universe (variant l.name b)) item))
