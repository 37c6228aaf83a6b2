-- When a farm goes on, as tests that compute.
use Rattle.std.proofs.Common.{◌≡◌, ℕ, zero, suc, Bool, true, false, not, ◌&&◌, ◌||◌, inl, inr, List, [], ◌∷◌, length, Some, slice_get, refl, sym, ap, ◌∙◌, subst}
use Rattle.std.specs.List.{list_any, list_all}
use Rattle.std.proofs.lemmas.Bool.{both_ways, not-true, false≢true, false_from_ne_true, and_parts, or_cases, cases_lt}
use Rattle.std.proofs.lemmas.List.{get_or_past}
use Rattle.std.proofs.lemmas.Option.{none-some, same_Some, slice_get-get_or}
use Rattle.farm_model.specs.declared.types.Variant.{Variant}
use Rattle.farm_model.specs.Common.{every_below, some_below, Universe, Recipe, variant, names, variants, no_recipe, outputs, initial, some_variant, IsKnown, recipe}
use Rattle.farm_model.proofs.BelowLaws.{every_below-at, some_below-found}
use Rattle.plan_model.specs.Common.{State, archive}
use Rattle.farm_laws.proofs.Archive.{list_any-some}
use Rattle.farm_laws.proofs.Safe.{variants_name}
use Rattle.leg_laws.specs.Named.{Item, item_of, is_equal_item, is_listed, was_there}
use Rattle.leg_laws.specs.Continuation.{stays, IsContinuation}
use Rattle.leg_laws.proofs.SameItems.{equal_item-turned, equal_item-joined, listed-same}
use Rattle.leg_laws.proofs.Reached.{any_found}

-- each variant passes
abbrev pub every_variant : Universe → (Variant → Bool) → Bool
every_variant w test =
    every_below (names w) (λ n. every_below (variants w n) (λ b. test (variant n b)))

pub every_variant-at : (w : Universe) (test : Variant → Bool) → every_variant w test ≡ true
    → (x : Variant) → IsKnown w x → test x ≡ true
every_variant-at w test e x known =
    every_below-at (variants w x.name) (λ b. test (variant x.name b)) x.bit known
    (every_below-at (names w) (λ n. every_below (variants w n) (λ b. test (variant n b))) x.name
    (variants_name w x.name x.bit known) e)

-- both are true, or none is
abbrev pub agree : Bool → Bool → Bool
agree true b = b
agree false b = not b

agree-same : (a b : Bool) → agree a b ≡ true → a ≡ b
agree-same true true e = refl
agree-same true false e = absurd (false≢true e)
agree-same false true e = absurd (false≢true e)
agree-same false false e = refl

pub known_found : (w : Universe) (test : Variant → Bool) → some_variant w test ≡ true
    → (x : Variant) × IsKnown w x × (test x ≡ true)
known_found w test e =
    let a = some_below-found (names w) (λ n. some_below (variants w n) (λ b. test (variant n b))) e
    in
    let b = some_below-found (variants w a.0) (λ b. test (variant a.0 b)) a.2 in
    (variant a.0 b.0, b.1, b.2)

-- each element passes
pub list_all-at : {X : Type 0} (test : X → Bool) (xs : List X) (i : ℕ) (x : X)
    → slice_get xs i ≡ Some x → list_all test xs ≡ true → test x ≡ true
list_all-at test [] i x e all = absurd (cc)
list_all-at test (y ∷ ys) zero x e all =
    subst (λ z. test z ≡ true) (same_Some y x e) (and_parts (test y) (list_all test ys) all).0
list_all-at test (y ∷ ys) (suc i) x e all =
    list_all-at test ys i x e (and_parts (test y) (list_all test ys) all).1

-- the farm knows it
abbrev pub is_known_by : Universe → Item → Bool
is_known_by w item = some_variant w (λ x. is_equal_item item (item_of w x))

-- an item of a list
listed_found : (items : List Item) (item : Item) → is_listed items item ≡ true
    → (other : Item) × (i : ℕ) × (slice_get items i ≡ Some other)
    × (is_equal_item other item ≡ true)
listed_found items item e =
    let f = any_found (λ other. is_equal_item other item) items e in (f.1, f.0, f.2, f.3)

module _ (u : Universe) (s : State) (brought gone : List Item) (w : Universe) where
  abbrev pub is_exact : Variant → Bool
  is_exact x = agree (initial w x) (stays u s brought gone (item_of w x))

  -- it was not there, is withdrawn, or is known
  abbrev pub is_carried : Variant → Bool
  is_carried v =
      not (archive u s.published v)
      || (is_listed gone (item_of u v) || is_known_by w (item_of u v))

  -- so each item that was brought
  abbrev pub are_brought : Bool
  are_brought = list_all (λ item. is_listed gone item || is_known_by w item) brought

  abbrev pub gives_withdrawn : Bool
  gives_withdrawn =
      list_any (λ (r : Recipe). list_any (λ x. is_listed gone (item_of w x)) r.outputs) w.recipes

  -- an item is known where an equal one is withdrawn or known
  known_as : (a b : Item) → is_equal_item a b ≡ true → is_listed gone b ≡ false
      → (is_listed gone a || is_known_by w a) ≡ true
      → (x : Variant) × IsKnown w x × (is_equal_item b (item_of w x) ≡ true)
  known_as a b equal not_gone e =
      elim (or_cases (is_listed gone a) _ e) [
        | inl gone_now ↦ absurd (both_ways (is_listed gone b) not_gone
            (listed-same gone a b equal gone_now))
        | inr known ↦
            let f = known_found w (λ x. is_equal_item a (item_of w x)) known in
            (f.0, f.1, equal_item-joined b a (item_of w f.0) (equal_item-turned a b equal) f.2)
      ]

  carried-known : every_variant u is_carried ≡ true → are_brought ≡ true → (item : Item)
      → stays u s brought gone item ≡ true
      → (x : Variant) × IsKnown w x × (is_equal_item item (item_of w x) ≡ true)
  carried-known carried known_all item e =
      let parts = and_parts (was_there u s item || is_listed brought item)
      (not (is_listed gone item)) e in
      let not_gone = not-true (is_listed gone item) parts.1 in
      elim (or_cases (was_there u s item) (is_listed brought item) parts.0) [
        | inl was ↦
            let f = known_found u
            (λ v. archive u s.published v && is_equal_item (item_of u v) item) was in
            let both = and_parts (archive u s.published f.0) (is_equal_item (item_of u f.0) item)
            f.2 in
            elim (or_cases (not (archive u s.published f.0)) _
            (every_variant-at u is_carried carried f.0 f.1)) [
              | inl lost ↦ absurd (false≢true (sym (ap not both.0) ∙ lost))
              | inr rest ↦ known_as (item_of u f.0) item both.1 not_gone rest
            ]
        | inr listed ↦
            let f = listed_found brought item listed in
            known_as f.0 item f.3 not_gone
            (list_all-at (λ other. is_listed gone other || is_known_by w other) brought f.1 f.0 f.2
            known_all)
      ]

  not_withdrawn : gives_withdrawn ≡ false → (r i : ℕ) (x : Variant)
      → slice_get (outputs w r) i ≡ Some x → is_listed gone (item_of w x) ≡ false
  unfolding recipe
  not_withdrawn none r i x e =
      false_from_ne_true (is_listed gone (item_of w x)) (λ listed.
      elim (cases_lt r (length w.recipes)) [
        | inl within ↦
            both_ways gives_withdrawn none
            (list_any-some (λ (r : Recipe). list_any (λ x. is_listed gone (item_of w x)) r.outputs)
            w.recipes r (recipe w r) (slice_get-get_or w.recipes r no_recipe within)
            (list_any-some (λ y. is_listed gone (item_of w y)) (outputs w r) i x e listed))
        | inr past ↦
            none-some x (sym (ap (λ (q : Recipe). slice_get q.outputs i)
            (get_or_past w.recipes r no_recipe past)) ∙ e)
      ])

  pub continuation_by : every_variant w is_exact ≡ true → every_variant u is_carried ≡ true
      → are_brought ≡ true → gives_withdrawn ≡ false → IsContinuation u s brought gone w
  continuation_by exact carried known_all none =
      record {
        exact = λ x known. agree-same (initial w x) (stays u s brought gone (item_of w x))
            (every_variant-at w is_exact exact x known);
        nothing_lost = carried-known carried known_all;
        never_again = not_withdrawn none;
      }
