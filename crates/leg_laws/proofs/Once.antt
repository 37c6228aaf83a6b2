-- Nothing is published twice, and what stays of a run composes with the next one.
use Rattle.std.proofs.Common.{◌≡◌, ℕ, true, false, not, ◌&&◌, ◌||◌, List, Some, slice_get, ◌∙◌}
use Rattle.std.proofs.lemmas.Bool.{both_ways, false_from_ne_true, and_from, or_left, not_from_false}
use Rattle.farm_model.specs.declared.types.Variant.{Variant}
use Rattle.farm_model.specs.Common.{Universe, outputs, initial, IsKnown}
use Rattle.plan_model.specs.Common.{Plan, archive, State, Reachable, IsSound}
use Rattle.farm_laws.proofs.LawsOfPlans.{every_interleaving}
use Rattle.leg_laws.specs.Named.{Item, item_of, is_equal_item, is_same, is_listed, was_there}
use Rattle.leg_laws.specs.Continuation.{stays, IsContinuation}
use Rattle.leg_laws.specs.Laws.{NoneTwice, PublishedOnce, GoesOnSafely, LegsCompose}
use Rattle.leg_laws.proofs.Archives.{some_variant-at, archive_is_left}
use Rattle.leg_laws.proofs.Reached.{reached_holds, published_there, published_known}

pub goes_on_safely : GoesOnSafely
goes_on_safely w q grounds =
    every_interleaving w q grounds.rows grounds.order grounds.sound grounds.annotation
    grounds.ordered

module _ (u : Universe) (s : State) (brought gone : List Item) (w : Universe)
    (continues : IsContinuation u s brought gone w) where
  -- what was there and is not withdrawn stays
  pub stays-by : (v : Variant) (item : Item) → IsKnown u v → archive u s.published v ≡ true
      → is_equal_item (item_of u v) item ≡ true → is_listed gone item ≡ false
      → stays u s brought gone item ≡ true
  stays-by v item known there equal not_gone =
      let was : was_there u s item ≡ true =
      some_variant-at u (λ y. archive u s.published y && is_equal_item (item_of u y) item) v known
      (and_from (archive u s.published v) (is_equal_item (item_of u v) item) there equal) in
      and_from (was_there u s item || is_listed brought item) (not (is_listed gone item))
      (or_left (was_there u s item) (is_listed brought item) was)
      (not_from_false (is_listed gone item) not_gone)

  -- no recipe gives what was there
  pub not_given_again : (q : Plan) → IsSound w q → (v x : Variant) (r m : ℕ) → IsKnown u v
      → archive u s.published v ≡ true → IsKnown w x → slice_get (outputs w r) m ≡ Some x
      → is_same u v w x ≡ false
  not_given_again q sound v x r m known there known_x output =
      false_from_ne_true (is_same u v w x) (λ same_variant.
      both_ways (initial w x) (sound.universe.outputs_new r m x output)
      (continues.exact x known_x
      ∙ stays-by v (item_of w x) known there same_variant (continues.never_again r m x output)))

  pub none_twice : (p : Plan) → IsSound u p → Reachable u p s → (q : Plan) → IsSound w q
      → (t : State) → Reachable w q t → NoneTwice u s w t
  none_twice p sound reached q sound_q t reached_t i j a b at_i at_j =
      let hs = reached_holds u p sound s reached in
      let ht = reached_holds w q sound_q t reached_t in
      let o = ht.are_outputs j b at_j in
      not_given_again q sound_q a.variant b.variant o.0 o.1
      (published_known u p sound s hs i a at_i) (published_there u p sound s i a at_i)
      (published_known w q sound_q t ht j b at_j) o.2

pub published_once : PublishedOnce
published_once u p s brought gone w q t sound reached continues sound_q reached_t =
    record {
      across = none_twice u s brought gone w continues p sound reached q sound_q t reached_t;
      within = (reached_holds w q sound_q t reached_t).once;
    }

pub legs_compose : LegsCompose
legs_compose u p s brought gone w q sound reached continues grounds =
    record {
      archives = λ t reached_t. archive_is_left u s brought gone w continues t;
      safe = goes_on_safely w q grounds;
      once = λ t reached_t. published_once u p s brought gone w q t sound reached continues
          grounds.sound reached_t;
    }
