use Rattle.std.proofs.Common.{◌≡◌, ℕ, ◌<◌, Some}
use Rattle.std.specs.List.{slice_get}
use Rattle.item_index.specs.Items.{item, IsListed}
use Rattle.leg_laws.specs.Named.{Item}
use Rattle.rest_farm.proofs.items.index_of.Given as goal

abbrev pub invariant-loop-number : goal.invariant-loop-number
invariant-loop-number l =
    (k : ℕ) (i : Item) → k < l.number → slice_get l.list k ≡ Some i
    → IsListed l.index i.name (item k 0 0)
