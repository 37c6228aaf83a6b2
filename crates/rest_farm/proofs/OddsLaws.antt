-- A farm goes on where a run has stopped exactly where nothing is at odds.
use Rattle.std.proofs.Common.{◌≡◌, ℕ, ◌<◌, Bool, true, false, not, ◌&&◌, ◌||◌, nat_lt, List, inl, inr, length, Some, slice_get, sym, ap, ◌∙◌, subst}
use Rattle.std.specs.List.{list_any}
use Rattle.std.proofs.lemmas.Bool.{both_ways, not-true, not-false, false_from_ne_true, not_from_true, not_from_false, and_parts, and_from, and_cases, or_cases, or_parts, or_from, or_left, or_right, lt-ltb, cases_lt}
use Rattle.std.proofs.lemmas.List.{get_or_past}
use Rattle.std.proofs.lemmas.List.Elements.{All-get_or}
use Rattle.std.proofs.lemmas.Option.{none-some, slice_get_within, get_or_from_slice_get}
use Rattle.farm_model.specs.declared.types.Variant.{Variant}
use Rattle.farm_model.specs.Common.{Recipe, Universe, initial, no_recipe, outputs, recipe, some_variant, variants, IsKnown, IsUniverse}
use Rattle.farm_model.proofs.BelowLaws.{some_below-at, some_below-found}
use Rattle.item_index.proofs.ItemLaws.{any-at, any-found}
use Rattle.plan_model.specs.Common.{State}
use Rattle.leg_laws.specs.Named.{Item, item_of, is_equal_item, is_listed, was_there}
use Rattle.leg_laws.specs.Continuation.{stays, IsContinuation}
use Rattle.leg_laws.proofs.Archives.{some_variant-at}
use Rattle.leg_laws.proofs.SameItems.{equal_item-itself, equal_item-joined, equal_item-turned, listed-same}
use Rattle.leg_laws.proofs.Tests.{known_found}
use Rattle.rest_farm.specs.Odds.{stays_in, differ, is_wrong, is_lost, is_gone, some_comes_back, is_at_odds, is_initial_item}

differ-same : (a b : Bool) → differ a b ≡ false → a ≡ b
differ-same true b e = sym (not-false b e)
differ-same false b e = sym e

same-differ : (a b : Bool) → a ≡ b → differ a b ≡ false
same-differ true b e = not_from_true b (sym e)
same-differ false b e = sym e

-- an element of a list of which none passes
none-passes : {X : Type 0} (p : X → Bool) (xs : List X) (k : ℕ) (x : X) → list_any p xs ≡ false
    → slice_get xs k ≡ Some x → p x ≡ false
none-passes p xs k x none at =
    false_from_ne_true (p x) (λ passes. both_ways (list_any p xs) none (any-at p xs k x at passes))

-- an equal item stays too
stays_in-same : (left brought gone : List Item) (a b : Item) → is_equal_item a b ≡ true
    → stays_in left brought gone a ≡ true → stays_in left brought gone b ≡ true
stays_in-same left brought gone a b equal e =
    let parts = and_parts (is_listed left a || is_listed brought a) (not (is_listed gone a)) e in
    let not_gone = false_from_ne_true (is_listed gone b) (λ gone_b.
    both_ways (is_listed gone a) (not-true (is_listed gone a) parts.1)
    (listed-same gone b a (equal_item-turned a b equal) gone_b)) in
    and_from (is_listed left b || is_listed brought b) (not (is_listed gone b))
    (elim (or_cases (is_listed left a) (is_listed brought a) parts.0) [
      | inl was ↦
          or_left (is_listed left b) (is_listed brought b) (listed-same left a b equal was)
      | inr came ↦
          or_right (is_listed left b) (is_listed brought b) (listed-same brought a b equal came)
    ])
    (not_from_false (is_listed gone b) not_gone)

module _ (u : Universe) (s : State) (left brought gone there : List Item) (w : Universe)
    (are_left : (item : Item) → is_listed left item ≡ was_there u s item)
    (are_there : (item : Item) → is_listed there item ≡ is_initial_item w item) where
  stays-is : (item : Item) → stays_in left brought gone item ≡ stays u s brought gone item
  stays-is item =
      ap (λ (b : Bool). (b || is_listed brought item) && not (is_listed gone item)) (are_left item)

  abbrev IsFound : Item → Type 0
  IsFound item = (x : Variant) × IsKnown w x × (is_equal_item item (item_of w x) ≡ true)

  -- ---- where nothing is at odds

  -- an item of the farm's archive is known to the farm
  there-found : (a b : Item) → is_equal_item a b ≡ true → is_listed there a ≡ true → IsFound b
  there-found a b equal is =
      let f = known_found w (λ x. initial w x && is_equal_item (item_of w x) a)
      (sym (are_there a) ∙ is) in
      let both = and_parts (initial w f.0) (is_equal_item (item_of w f.0) a) f.2 in (
        f.0,
        f.1,
        equal_item-joined b a (item_of w f.0) (equal_item-turned a b equal)
            (equal_item-turned (item_of w f.0) a both.1),
      )

  -- no item of a list is lost, so what it has and is not withdrawn is known
  none-lost : (items : List Item) → list_any (is_lost gone there) items ≡ false → (item : Item)
      → is_listed items item ≡ true → is_listed gone item ≡ false → IsFound item
  none-lost items none item listed not_gone =
      let f = any-found (λ (other : Item). is_equal_item other item) items listed in
      let kept = none-passes (is_lost gone there) items f.0 f.1 none f.2 in
      elim (and_cases (not (is_listed gone f.1)) (not (is_listed there f.1)) kept) [
        | inl out ↦ absurd (both_ways (is_listed gone item) not_gone
            (listed-same gone f.1 item f.3 (not-false (is_listed gone f.1) out)))
        | inr is ↦ there-found f.1 item f.3 (not-false (is_listed there f.1) is)
      ]

  exact-at : some_variant w (is_wrong left brought gone w) ≡ false → (x : Variant) → IsKnown w x
      → initial w x ≡ stays u s brought gone (item_of w x)
  exact-at none x known =
      differ-same (initial w x) (stays_in left brought gone (item_of w x))
      (false_from_ne_true (is_wrong left brought gone w x) (λ wrong.
      both_ways (some_variant w (is_wrong left brought gone w)) none
      (some_variant-at w (is_wrong left brought gone w) x known wrong)))
      ∙ stays-is (item_of w x)

  found-at : list_any (is_lost gone there) left ≡ false → list_any (is_lost gone there) brought ≡ false
      → (item : Item) → stays u s brought gone item ≡ true → IsFound item
  found-at none_left none_brought item stay =
      let parts = and_parts (was_there u s item || is_listed brought item)
      (not (is_listed gone item)) stay in
      let not_gone = not-true (is_listed gone item) parts.1 in
      elim (or_cases (was_there u s item) (is_listed brought item) parts.0) [
        | inl was ↦ none-lost left none_left item (are_left item ∙ was) not_gone
        | inr came ↦ none-lost brought none_brought item came not_gone
      ]

  -- what a recipe gives is known to the farm
  output-known : IsUniverse w → (r i : ℕ) (x : Variant) → slice_get (outputs w r) i ≡ Some x
      → IsKnown w x
  output-known sound r i x at =
      subst (λ (y : Variant). IsKnown w y) (get_or_from_slice_get (outputs w r) i x x at)
      (All-get_or (IsKnown w) (outputs w r) i x (slice_get_within (outputs w r) i x at)
      (sound.outputs_known r))

  -- only a recipe of the farm gives something
  output-within : (r i : ℕ) (x : Variant) → slice_get (outputs w r) i ≡ Some x
      → r < length w.recipes
  unfolding recipe
  output-within r i x at = elim (cases_lt r (length w.recipes)) [
    | inl within ↦ within
    | inr past ↦ absurd (none-some x (sym (ap (λ (q : Recipe). slice_get q.outputs i)
        (get_or_past w.recipes r no_recipe past)) ∙ at))
  ]

  abbrev comes_back : ℕ → Bool
  comes_back r = list_any (is_gone gone w) (outputs w r)

  gone-at : (x : Variant) → IsKnown w x → is_listed gone (item_of w x) ≡ true
      → is_gone gone w x ≡ true
  gone-at x known is =
      and_from (nat_lt x.bit (variants w x.name)) (is_listed gone (item_of w x))
      (lt-ltb x.bit (variants w x.name) known) is

  never-at : IsUniverse w → some_comes_back gone w ≡ false → (r i : ℕ) (x : Variant)
      → slice_get (outputs w r) i ≡ Some x → is_listed gone (item_of w x) ≡ false
  never-at sound none r i x at =
      false_from_ne_true (is_listed gone (item_of w x)) (λ is.
      both_ways (some_comes_back gone w) none
      (some_below-at (length w.recipes) comes_back r (output-within r i x at)
      (any-at (is_gone gone w) (outputs w r) i x at
      (gone-at x (output-known sound r i x at) is))))

  pub goes_on : IsUniverse w → is_at_odds left brought gone there w ≡ false
      → IsContinuation u s brought gone w
  goes_on sound none =
      let wrong = some_variant w (is_wrong left brought gone w) in
      let lost_left = list_any (is_lost gone there) left in
      let lost_brought = list_any (is_lost gone there) brought in
      let last = or_parts (wrong || lost_left || lost_brought) (some_comes_back gone w) none in
      let third = or_parts (wrong || lost_left) lost_brought last.0 in
      let first = or_parts wrong lost_left third.0 in
      record {
        exact = exact-at first.0;
        nothing_lost = found-at first.1 third.1;
        never_again = never-at sound last.1;
      }

  -- ---- where a farm goes on

  module _ (on : IsContinuation u s brought gone w) where
    none-wrong : some_variant w (is_wrong left brought gone w) ≡ false
    none-wrong =
        false_from_ne_true (some_variant w (is_wrong left brought gone w)) (λ some.
        let f = known_found w (is_wrong left brought gone w) some in
        both_ways (is_wrong left brought gone w f.0)
        (same-differ (initial w f.0) (stays_in left brought gone (item_of w f.0))
        (on.exact f.0 f.1 ∙ sym (stays-is (item_of w f.0)))) f.2)

    -- what stays is in the farm's archive
    stays-there : (item : Item) → stays_in left brought gone item ≡ true
        → is_listed there item ≡ true
    stays-there item stay =
        let f = on.nothing_lost item (sym (stays-is item) ∙ stay) in
        let first = on.exact f.0 f.1 ∙ sym (stays-is (item_of w f.0))
        ∙ stays_in-same left brought gone item (item_of w f.0) f.2 stay in
        are_there item
        ∙ some_variant-at w (λ x. initial w x && is_equal_item (item_of w x) item) f.0 f.1
        (and_from (initial w f.0) (is_equal_item (item_of w f.0) item) first
        (equal_item-turned item (item_of w f.0) f.2))

    lost-none : (items : List Item)
        → ((item : Item) → is_listed items item ≡ true
        → (is_listed left item || is_listed brought item) ≡ true)
        → list_any (is_lost gone there) items ≡ false
    lost-none items are =
        false_from_ne_true (list_any (is_lost gone there) items) (λ some.
        let f = any-found (is_lost gone there) items some in
        let parts = and_parts (not (is_listed gone f.1)) (not (is_listed there f.1)) f.3 in
        let listed = any-at (λ (other : Item). is_equal_item other f.1) items f.0 f.1 f.2
        (equal_item-itself f.1) in
        both_ways (is_listed there f.1) (not-true (is_listed there f.1) parts.1)
        (stays-there f.1
        (and_from (is_listed left f.1 || is_listed brought f.1) (not (is_listed gone f.1))
        (are f.1 listed) parts.0)))

    none-back : some_comes_back gone w ≡ false
    none-back =
        false_from_ne_true (some_comes_back gone w) (λ some.
        let r = some_below-found (length w.recipes) comes_back some in
        let f = any-found (is_gone gone w) (outputs w r.0) r.2 in
        let parts = and_parts (nat_lt f.1.bit (variants w f.1.name))
        (is_listed gone (item_of w f.1)) f.3 in
        both_ways (is_listed gone (item_of w f.1)) (on.never_again r.0 f.0 f.1 f.2) parts.1)

    pub nothing_at_odds : is_at_odds left brought gone there w ≡ false
    nothing_at_odds =
        let wrong = some_variant w (is_wrong left brought gone w) in
        let lost_left = list_any (is_lost gone there) left in
        let lost_brought = list_any (is_lost gone there) brought in
        or_from (wrong || lost_left || lost_brought) (some_comes_back gone w)
        (or_from (wrong || lost_left) lost_brought
        (or_from wrong lost_left none-wrong
        (lost-none left (λ item is. or_left (is_listed left item) (is_listed brought item) is)))
        (lost-none brought (λ item is. or_right (is_listed left item) (is_listed brought item) is)))
        none-back
