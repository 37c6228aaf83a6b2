-- A farm that goes on where a run has stopped, by what came into its archive.
use Rattle.std.proofs.Common.{◌≡◌, List, ap, ◌∙◌}
use Rattle.std.specs.Prelude.{not, ◌&&◌, ◌||◌}
use Rattle.farm_model.specs.Common.{Universe}
use Rattle.plan_model.specs.Common.{State}
use Rattle.leg_laws.specs.Continuation.{stays, IsContinuation}
use Rattle.leg_laws.specs.Named.{Item, is_listed, item_of, was_there}

module _ (u : Universe) (s : State) (brought other gone : List Item) (w : Universe)
    (same : (item : Item) → is_listed brought item ≡ is_listed other item) where
  stays-same : (item : Item) → stays u s brought gone item ≡ stays u s other gone item
  stays-same item =
      ap (λ x. (was_there u s item || x) && not (is_listed gone item)) (same item)

  -- what came is given by a list with the same items
  pub continues-same : IsContinuation u s brought gone w → IsContinuation u s other gone w
  continues-same on = record {
    exact = λ x known. on.exact x known ∙ stays-same (item_of w x);
    nothing_lost = λ item stay. on.nothing_lost item (stays-same item ∙ stay);
    never_again = on.never_again;
  }
