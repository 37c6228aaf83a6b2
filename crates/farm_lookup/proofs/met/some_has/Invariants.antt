use Rattle.std.proofs.Common.{◌≡◌, ℕ, ◌<◌, Some, slice_get}
use Rattle.farm_model.specs.Packages.{names}
use Rattle.item_index.specs.declared.item.Item.{Item}
use Rattle.farm_lookup.specs.Candidates.{NoneOf}
use Rattle.farm_lookup.proofs.met.some_has.Given as goal

abbrev pub invariant-loop-number : goal.invariant-loop-number
invariant-loop-number l =
    (k : ℕ) (at : Item ℕ) → k < l.number → slice_get l.items k ≡ Some at
    → at.owner < names l.universe → NoneOf l.universe l.atom at.owner
