-- What was wanted is there once all that is left is published.
use Rattle.std.proofs.Common.{◌≡◌, ℕ, zero, suc, Bool, true, false, not, ◌&&◌, ◌||◌, inl, inr, List, [], ◌∷◌, Some, slice_get, refl, sym, ap, ◌∙◌, subst}
use Rattle.std.specs.Prelude.{filter}
use Rattle.std.specs.List.{list_all}
use Rattle.std.proofs.lemmas.Bool.{both_ways, not-true, not_from_false, false_from_ne_true, cases_Bool, and_parts, and_from, or_cases, or_right}
use Rattle.std.proofs.lemmas.Option.{same_Some, get_or_from_slice_get}
use Rattle.farm_model.specs.declared.types.Variant.{Variant}
use Rattle.farm_model.specs.Common.{Universe, Recipe, no_recipe, outputs, recipe}
use Rattle.plan_model.specs.Common.{State, archive}
use Rattle.farm_laws.proofs.Possible.{initial_there}
use Rattle.leg_laws.specs.Named.{Item, item_of, is_equal_item, is_same, is_listed, was_there}
use Rattle.leg_laws.specs.Continuation.{stays, IsContinuation}
use Rattle.leg_laws.specs.Left.{Wishes, has_name, has_published, is_done, is_left, are_same, IsRecipeLeft, AreRecipesLeft, IsLeft}
use Rattle.leg_laws.specs.Laws.{HasAllOf, NothingForgotten}
use Rattle.leg_laws.proofs.SameItems.{equal_item-turned, equal_item-joined, listed-same}
use Rattle.leg_laws.proofs.Once.{stays-by}
use Rattle.leg_laws.proofs.Tests.{known_found, list_all-at}

-- an element that passes is among those that do
filter_found : {X : Type 0} (test : X → Bool) (xs : List X) (k : ℕ) (x : X)
    → slice_get xs k ≡ Some x → test x ≡ true → (j : ℕ) × (slice_get (filter test xs) j ≡ Some x)
filter_found test [] k x e h = absurd (cc)
filter_found test (y ∷ ys) zero x e h =
    let same : y ≡ x = same_Some y x e in
    let passes : test y ≡ true = subst (λ z. test z ≡ true) (sym same) h in
    (0, rw passes e)
filter_found test (y ∷ ys) (suc k) x e h =
    let r = filter_found test ys k x e h in
    elim (cases_Bool (test y)) [
      | inl passes ↦ (suc r.0, rw passes r.1)
      | inr fails ↦ (r.0, rw fails r.1)
    ]

-- the same variant in the other list
same_found : (g : Universe) (vs : List Variant) (w : Universe) (xs : List Variant)
    → are_same g vs w xs ≡ true → (i : ℕ) (v : Variant) → slice_get vs i ≡ Some v
    → (x : Variant) × (slice_get xs i ≡ Some x) × (is_same g v w x ≡ true)
same_found g [] w xs all i v e = absurd (cc)
same_found g (y ∷ ys) w [] all i v e = absurd (cc)
same_found g (y ∷ ys) w (x ∷ xs) all zero v e =
    let parts = and_parts (is_same g y w x) (are_same g ys w xs) all in
    (x, refl, subst (λ z. is_same g z w x ≡ true) (same_Some y v e) parts.0)
same_found g (y ∷ ys) w (x ∷ xs) all (suc i) v e =
    same_found g ys w xs (and_parts (is_same g y w x) (are_same g ys w xs) all).1 i v e

-- the recipe that one is in the farm that goes on
recipe_found : (wishes : Wishes) (g : Universe) (rs : List Recipe) (w : Universe)
    (qs : List Recipe) → AreRecipesLeft wishes g rs w qs → (k : ℕ) (r : Recipe)
    → slice_get rs k ≡ Some r
    → (q : Recipe) × (slice_get qs k ≡ Some q) × IsRecipeLeft wishes g r w q
recipe_found wishes g [] w qs all k r e = absurd (cc)
recipe_found wishes g (x ∷ rs) w [] all k r e = absurd all
recipe_found wishes g (x ∷ rs) w (q ∷ qs) all zero r e =
    (q, refl, subst (λ y. IsRecipeLeft wishes g y w q) (same_Some x r e) all.0)
recipe_found wishes g (x ∷ rs) w (q ∷ qs) all (suc k) r e =
    recipe_found wishes g rs w qs all.1 k r e

outputs-at : (w : Universe) (n : ℕ) (q : Recipe) → slice_get w.recipes n ≡ Some q
    → outputs w n ≡ q.outputs
unfolding recipe
outputs-at w n q e =
    ap (λ (r : Recipe). r.outputs) (get_or_from_slice_get w.recipes n q no_recipe e)

module _ (u : Universe) (s : State) (brought gone : List Item) (wishes : Wishes) (g w : Universe)
    (t : State) (continues : IsContinuation u s brought gone w) where
  -- an equal item stays too
  stays-same : (a b : Item) → is_equal_item a b ≡ true → stays u s brought gone a ≡ true
      → stays u s brought gone b ≡ true
  stays-same a b equal e =
      let parts = and_parts (was_there u s a || is_listed brought a) (not (is_listed gone a)) e in
      let not_gone = false_from_ne_true (is_listed gone b) (λ gone_now.
      both_ways (is_listed gone a) (not-true (is_listed gone a) parts.1)
      (listed-same gone b a (equal_item-turned a b equal) gone_now)) in
      elim (or_cases (was_there u s a) (is_listed brought a) parts.0) [
        | inl was ↦
            let f = known_found u
            (λ v. archive u s.published v && is_equal_item (item_of u v) a) was in
            let both = and_parts (archive u s.published f.0) (is_equal_item (item_of u f.0) a) f.2
            in
            stays-by u s brought gone w continues f.0 b f.1 both.0
            (equal_item-joined (item_of u f.0) a b both.1 equal) not_gone
        | inr listed ↦
            and_from (was_there u s b || is_listed brought b) (not (is_listed gone b))
            (or_right (was_there u s b) (is_listed brought b) (listed-same brought a b equal listed))
            (not_from_false (is_listed gone b) not_gone)
      ]

  -- what stays is in the archive from the beginning
  stays_there : (v : Variant) → stays u s brought gone (item_of g v) ≡ true
      → (x : Variant) × (archive w t.published x ≡ true) × (is_same g v w x ≡ true)
  stays_there v stay =
      let f = continues.nothing_lost (item_of g v) stay in
      let first = continues.exact f.0 f.1
      ∙ stays-same (item_of g v) (item_of w f.0) f.2 stay in
      (f.0, initial_there w [] t.published f.0 first, f.2)

  -- a recipe that is done, and not by its name
  done_there : (r : Recipe) → has_name wishes.done r.name ≡ false → has_published u s r.name ≡ false
      → is_done u s brought gone wishes g r ≡ true → HasAllOf g r w t
  done_there r not_done not_given done i v at =
      let all_there = list_all (λ x. stays u s brought gone (item_of g x)) r.outputs in
      let parts = and_parts (not (has_name wishes.again r.name))
      (has_name wishes.done r.name || (has_published u s r.name || all_there)) done in
      elim (or_cases (has_name wishes.done r.name) (has_published u s r.name || all_there) parts.1) [
        | inl before ↦ absurd (both_ways (has_name wishes.done r.name) not_done before)
        | inr rest ↦ elim (or_cases (has_published u s r.name) all_there rest) [
          | inl now ↦ absurd (both_ways (has_published u s r.name) not_given now)
          | inr all ↦
              stays_there v (list_all-at (λ x. stays u s brought gone (item_of g x)) r.outputs i v at
              all)
        ]
      ]

  -- a recipe that is left
  left_there : IsLeft u s brought gone wishes g w
      → ((r i : ℕ) (x : Variant) → slice_get (outputs w r) i ≡ Some x
      → archive w t.published x ≡ true)
      → (k : ℕ) (r : Recipe) → slice_get g.recipes k ≡ Some r
      → is_left u s brought gone wishes g r ≡ true → HasAllOf g r w t
  left_there left published k r at is i v out =
      let test = is_left u s brought gone wishes g in
      let place = filter_found test g.recipes k r at is in
      let found = recipe_found wishes g (filter test g.recipes) w w.recipes left place.0 r place.1
      in
      let x = same_found g r.outputs w found.0.outputs found.2.outputs i v out in (
        x.0,
        published place.0 i x.0
            (ap (λ xs. slice_get xs i) (outputs-at w place.0 found.0 found.1) ∙ x.1),
        x.2,
      )

pub nothing_forgotten : NothingForgotten
nothing_forgotten u s brought gone wishes g w t continues left published k r at kept not_done
    not_given =
    elim (cases_Bool (is_done u s brought gone wishes g r)) [
      | inl done ↦ done_there u s brought gone wishes g w t continues r not_done not_given done
      | inr fresh ↦ left_there u s brought gone wishes g w t continues left published k r at
          (and_from (not (has_name wishes.without r.name)) _
          (not_from_false (has_name wishes.without r.name) kept)
          (not_from_false (is_done u s brought gone wishes g r) fresh))
    ]
