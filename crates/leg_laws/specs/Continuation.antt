-- A farm that goes on where a run has stopped. The project's own rules. Parameters: u the universe
-- of that run and s the state that it came to; w the universe of the farm; brought what came into
-- the archive by hand, gone what was withdrawn from it, by name and version.
--
--   stays               what the archive has when the farm begins
--   IsContinuation      the farm begins with the archive that the run has left
use Rattle.std.specs.Prelude.{◌≡◌, ℕ, Bool, true, false, not, ◌&&◌, ◌||◌, List, Some, slice_get}
use Rattle.farm_model.specs.declared.types.Variant.{Variant}
use Rattle.farm_model.specs.Common.{Universe, outputs, initial, IsKnown}
use Rattle.plan_model.specs.Common.{State}
use Rattle.leg_laws.specs.Named.{Item, item_of, is_equal_item, is_listed, was_there}

-- it was there or was brought, and is not withdrawn
abbrev pub stays : Universe → State → (brought gone : List Item) → Item → Bool
stays u s brought gone item =
    (was_there u s item || is_listed brought item) && not (is_listed gone item)

-- The archive at the farm's beginning is the one that the run has left:
pub record IsContinuation (u : Universe) (s : State) (brought gone : List Item) (w : Universe)
    : Type 0 where
  -- it has exactly what stays;
  pub exact : (x : Variant) → IsKnown w x → initial w x
      ≡ stays u s brought gone (item_of w x)
  -- the farm knows all that stays;
  pub nothing_lost : (item : Item) → stays u s brought gone item ≡ true
      → (x : Variant) × IsKnown w x × (is_equal_item item (item_of w x) ≡ true)
  -- and no recipe gives what is withdrawn.
  pub never_again : (r i : ℕ) (x : Variant) → slice_get (outputs w r) i ≡ Some x
      → is_listed gone (item_of w x) ≡ false
