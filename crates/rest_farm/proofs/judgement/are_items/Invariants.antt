use Rattle.std.proofs.Common.{◌≡◌, ℕ, ◌<◌, true, Some}
use Rattle.std.specs.List.{slice_get}
use Rattle.farm_model.specs.declared.types.Variant.{Variant}
use Rattle.leg_laws.specs.Named.{Item, is_equal_item, item_of}
use Rattle.rest_farm.proofs.judgement.are_items.Given as goal

abbrev pub invariant-loop-at : goal.invariant-loop-at
invariant-loop-at l =
    (k : ℕ) (i : Item) (x : Variant) → k < l.at → slice_get l.items k ≡ Some i
    → slice_get l.variants k ≡ Some x → is_equal_item i (item_of l.farm x) ≡ true
