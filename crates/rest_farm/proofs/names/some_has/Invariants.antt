use Rattle.std.proofs.Common.{◌≡◌, ℕ, ◌<◌, false, Some, slice_get}
use Rattle.item_index.specs.declared.item.Item.{Item as Place}
use Rattle.rest_farm.specs.Items.{is_at, is_name}
use Rattle.rest_farm.proofs.names.some_has.Given as goal

abbrev pub invariant-loop-number : goal.invariant-loop-number
invariant-loop-number l =
    (k : ℕ) (at : Place ℕ) → k < l.number → slice_get l.places k ≡ Some at
    → is_at (is_name l.bytes) l.list at.owner ≡ false
