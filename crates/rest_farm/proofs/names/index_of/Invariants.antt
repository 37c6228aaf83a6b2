use Rattle.std.proofs.Common.{◌≡◌, ℕ, ◌<◌, List, Some}
use Rattle.std.specs.List.{slice_get}
use Rattle.item_index.specs.Items.{item, IsListed}
use Rattle.rest_farm.proofs.names.index_of.Given as goal

abbrev pub invariant-loop-number : goal.invariant-loop-number
invariant-loop-number l =
    (k : ℕ) (name : List ℕ) → k < l.number → slice_get l.list k ≡ Some name
    → IsListed l.index name (item k 0 0)
