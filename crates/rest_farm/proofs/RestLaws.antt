-- Lists that go side by side, what is left of a list, and texts that are judged.
use Rattle.std.proofs.Common.{◌≡◌, ℕ, ◌+◌, ◌<◌, Bool, true, false, not, ◌&&◌, ◌||◌, List, [], ◌∷◌, ◌++◌, filter, length, get_or, take, cond, inl, inr, Option, Some, Ok, Err, refl, ap, sym, ◌∙◌, subst, length-append, arith}
use Rattle.std.specs.Cmp.{both_ways as same_by}
use Rattle.std.specs.List.{slice_get}
use Rattle.std.specs.Prelude.{MatchOption}
use Rattle.deb_text.specs.Answers.{Fails, refusal_of}
use Rattle.deb_text.specs.declared.fault.Fault.{Fault}
use Rattle.std.proofs.Math.Seq.{get_or-append_seam}
use Rattle.std.proofs.lemmas.Bool.{both_ways, cases_Bool, cases_lt, cond-true, cond-false, and_parts, and_from, or_cases, or_left, or_right, not-true, not_from_false, false_from_ne_true}
use Rattle.std.proofs.lemmas.List.{append-nil, get_or_append_left}
use Rattle.std.proofs.lemmas.List.Elements.{filter_more}
use Rattle.std.proofs.lemmas.Option.{same_Some, slice_get_within, slice_get-get_or, get_or_from_slice_get}
use Rattle.farm_model.specs.Common.{Universe, initial}
use Rattle.farm_universe.specs.UniverseText.{universe_of}
use Rattle.plan_model.specs.Common.{State, archive}
use Rattle.leg_laws.specs.Named.{Item, item_of, is_equal_item, is_listed, was_there}
use Rattle.leg_laws.specs.Continuation.{stays, IsContinuation}
use Rattle.leg_laws.proofs.Archives.{some_variant-at}
use Rattle.leg_laws.proofs.SameItems.{equal_item-joined, equal_item-turned, listed-same}
use Rattle.leg_laws.proofs.Tests.{known_found}
use Rattle.rest_farm.specs.declared.judgement.Claims.{Claims}
use Rattle.rest_farm.specs.declared.judgement.Judged.{Judged}
use Rattle.rest_farm.specs.declared.judgement.Judged.TheVariants.{Right, Refused, Wrong}
use Rattle.rest_farm.specs.declared.judgement.RestTexts.{RestTexts}
use Rattle.rest_farm.specs.Odds.{is_initial_item}
use Rattle.rest_farm.specs.Rest.{IsJudged, IsOfFarm}

-- what holds of each two elements ahead of a place holds of each ahead of the next
pub pairs_next : {A B : Type 0} (R : A → B → Type 0) (xs : List A) (ys : List B) (n : ℕ) (x : A)
    (y : B) → slice_get xs n ≡ Some x → slice_get ys n ≡ Some y → R x y
    → ((k : ℕ) (a : A) (b : B) → k < n → slice_get xs k ≡ Some a → slice_get ys k ≡ Some b → R a b)
    → (k : ℕ) (a : A) (b : B) → k < n + 1 → slice_get xs k ≡ Some a → slice_get ys k ≡ Some b
    → R a b
pairs_next {A} {B} R xs ys n x y at_x at_y here before k a b lt at_a at_b = elim (cases_lt k n) [
  | inl old ↦ before k a b old at_a at_b
  | inr ge ↦
      let last : n ≡ k = omega (arith, lt, ge) in
      let same_a : x ≡ a = same_Some x a
      (sym at_x ∙ ap (λ (i : ℕ). slice_get xs i) last ∙ at_a) in
      let same_b : y ≡ b = same_Some y b
      (sym at_y ∙ ap (λ (i : ℕ). slice_get ys i) last ∙ at_b) in
      subst (λ (z : B). R a z) same_b (subst (λ (z : A). R z y) same_a here)
]

-- what holds of each element of a list holds with one more behind
pub pushed-each : {A : Type 0} (P : ℕ → A → Type 0) (xs : List A) (x : A)
    → ((k : ℕ) (a : A) → slice_get xs k ≡ Some a → P k a) → P (length xs) x
    → (k : ℕ) (a : A) → slice_get (xs ++ x ∷ []) k ≡ Some a → P k a
pushed-each {A} P xs x each here k a at = elim (cases_lt k (length xs)) [
  | inl old ↦
      each k a
      (slice_get-get_or xs k a old
      ∙ ap Some (sym (get_or_append_left xs (x ∷ []) a k old)
      ∙ get_or_from_slice_get (xs ++ x ∷ []) k a a at))
  | inr ge ↦
      let within = slice_get_within (xs ++ x ∷ []) k a at in
      let last : length xs ≡ k = omega (arith, within, ge, length-append xs (x ∷ [])) in
      let same : x ≡ a =
      sym (get_or-append_seam xs x [] a) ∙ ap (λ (i : ℕ). get_or (xs ++ x ∷ []) i a) last
      ∙ get_or_from_slice_get (xs ++ x ∷ []) k a a at in
      subst (λ (i : ℕ). P i a) last (subst (λ (z : A). P (length xs) z) same here)
]

-- what holds of each element that passes, so far
pub record IsFront {A : Type 0} (p : A → Bool) (P : ℕ → A → Type 0) (xs : List A) (number : ℕ)
    : Type 0 where
  pub count : number ≡ length (filter p xs)
  pub each : (k : ℕ) (a : A) → slice_get (filter p xs) k ≡ Some a → P k a

module _ {A : Type 0} (p : A → Bool) (P : ℕ → A → Type 0) where
  front-same : (xs ys : List A) (number next : ℕ) → filter p ys ≡ filter p xs → next ≡ number
      → IsFront p P xs number → IsFront p P ys next
  front-same xs ys number next same is front = record {
    count = is ∙ front.count ∙ ap length (sym same);
    each = λ k a at. front.each k a (sym (ap (λ (zs : List A). slice_get zs k) same) ∙ at);
  }

  front-one : (xs ys : List A) (x : A) (number next : ℕ) → filter p ys ≡ filter p xs ++ x ∷ []
      → next ≡ number + 1 → P number x → IsFront p P xs number → IsFront p P ys next
  front-one xs ys x number next more is here front = record {
    count = is ∙ ap (λ (n : ℕ). n + 1) front.count
        ∙ sym (length-append (filter p xs) (x ∷ [])) ∙ ap length (sym more);
    each = λ k a at. pushed-each P (filter p xs) x front.each
        (subst (λ (n : ℕ). P n x) front.count here) k a
        (sym (ap (λ (zs : List A). slice_get zs k) more) ∙ at);
  }

  -- one more element
  pub front-more : (xs : List A) (i : ℕ) (x : A) (number next : ℕ) → i < length xs
      → x ≡ get_or xs i x → IsFront p P (take i xs) number
      → (p x ≡ true → (next ≡ number + 1) × P number x) → (p x ≡ false → next ≡ number)
      → IsFront p P (take (i + 1) xs) next
  front-more xs i x number next within here front passed failed =
      let more : filter p (take (i + 1) xs) ≡ filter p (take i xs) ++ cond (p x) (x ∷ []) [] =
      filter_more p xs i x within
      ∙ ap (λ (y : A). filter p (take i xs) ++ cond (p y) (y ∷ []) []) (sym here) in
      elim (cases_Bool (p x)) [
        | inl passes ↦
            let step = passed passes in
            front-one (take i xs) (take (i + 1) xs) x number next
            (more ∙ ap (λ (zs : List A). filter p (take i xs) ++ zs)
            (cond-true (p x) (x ∷ []) [] passes)) step.0 step.1 front
        | inr fails ↦
            front-same (take i xs) (take (i + 1) xs) number next
            (more ∙ ap (λ (zs : List A). filter p (take i xs) ++ zs)
            (cond-false (p x) (x ∷ []) [] fails) ∙ append-nil (filter p (take i xs)))
            (failed fails) front
      ]

module _ (u : Universe) (s : State) (brought gone : List Item) (w : Universe)
    (on : IsContinuation u s brought gone w) where
  -- an equal item was there too
  was_there-same : (a b : Item) → is_equal_item a b ≡ true → was_there u s a ≡ true
      → was_there u s b ≡ true
  was_there-same a b equal was =
      let f = known_found u (λ v. archive u s.published v && is_equal_item (item_of u v) a) was in
      let both = and_parts (archive u s.published f.0) (is_equal_item (item_of u f.0) a) f.2 in
      some_variant-at u (λ v. archive u s.published v && is_equal_item (item_of u v) b) f.0 f.1
      (and_from (archive u s.published f.0) (is_equal_item (item_of u f.0) b) both.0
      (equal_item-joined (item_of u f.0) a b both.1 equal))

  stays-same : (a b : Item) → is_equal_item a b ≡ true → stays u s brought gone a ≡ true
      → stays u s brought gone b ≡ true
  stays-same a b equal e =
      let parts = and_parts (was_there u s a || is_listed brought a) (not (is_listed gone a)) e in
      let not_gone = false_from_ne_true (is_listed gone b) (λ gone_b.
      both_ways (is_listed gone a) (not-true (is_listed gone a) parts.1)
      (listed-same gone b a (equal_item-turned a b equal) gone_b)) in
      and_from (was_there u s b || is_listed brought b) (not (is_listed gone b))
      (elim (or_cases (was_there u s a) (is_listed brought a) parts.0) [
        | inl was ↦
            or_left (was_there u s b) (is_listed brought b) (was_there-same a b equal was)
        | inr came ↦
            or_right (was_there u s b) (is_listed brought b) (listed-same brought a b equal came)
      ])
      (not_from_false (is_listed gone b) not_gone)

  initial-stays : (item : Item) → is_initial_item w item ≡ true
      → stays u s brought gone item ≡ true
  initial-stays item is =
      let f = known_found w (λ x. initial w x && is_equal_item (item_of w x) item) is in
      let both = and_parts (initial w f.0) (is_equal_item (item_of w f.0) item) f.2 in
      stays-same (item_of w f.0) item both.1 (sym (on.exact f.0 f.1) ∙ both.0)

  stays-initial : (item : Item) → stays u s brought gone item ≡ true
      → is_initial_item w item ≡ true
  stays-initial item stay =
      let f = on.nothing_lost item stay in
      some_variant-at w (λ x. initial w x && is_equal_item (item_of w x) item) f.0 f.1
      (and_from (initial w f.0) (is_equal_item (item_of w f.0) item)
      (on.exact f.0 f.1 ∙ stays-same item (item_of w f.0) f.2 stay)
      (equal_item-turned item (item_of w f.0) f.2))

  -- the archive of the farm has exactly what stays
  pub initial-is : (item : Item) → is_initial_item w item ≡ stays u s brought gone item
  initial-is item =
      same_by (is_initial_item w item) (stays u s brought gone item) (initial-stays item)
      (stays-initial item)

-- what is told of the farm of texts
pub judged-rest : (of : Claims) (texts : RestTexts) (w : Universe)
    → universe_of texts.packages.items texts.sources.items texts.farm.items ≡ Ok w
    → (judged : Judged) → IsOfFarm of w judged → IsJudged of texts judged
judged-rest of texts w read Right is = (w, read, is)
judged-rest of texts w read (Refused fault) is = absurd is
judged-rest of texts w read Wrong is = tt

-- and of texts that are not read
pub judged-refused : (of : Claims) (texts : RestTexts) (fault : Fault)
    → Fails refusal_of fault
    (universe_of texts.packages.items texts.sources.items texts.farm.items)
    → (judged : Judged) → (judged ≡ Refused fault) × (refusal_of fault ≡ Some fault)
    → IsJudged of texts judged
judged-refused of texts fault fails judged is =
    subst (IsJudged of texts) (sym is.0)
    (subst
    (λ (refusal : Option Fault). MatchOption refusal (Unit {0})
    (λ (f : Fault). universe_of texts.packages.items texts.sources.items texts.farm.items ≡ Err f))
    is.1 fails)
