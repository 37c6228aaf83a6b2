use Rattle.std.proofs.Common.{◌≡◌, ℕ, ◌<◌, Some, slice_get}
use Rattle.farm_model.specs.Packages.{names}
use Rattle.item_index.specs.declared.item.Item.{Item}
use Rattle.plan_model.specs.Run.{archive}
use Rattle.timed_farm.specs.Held.{NoneOf}
use Rattle.timed_farm.proofs.held.some_has.Given as goal

abbrev pub invariant-loop-number : goal.invariant-loop-number
invariant-loop-number l =
    (k : ℕ) (at : Item ℕ) → k < l.number → slice_get l.items k ≡ Some at
    → at.owner < names l.core.universe
    → NoneOf l.core.universe (archive l.core.universe l.core.state.published) l.entry at.owner
