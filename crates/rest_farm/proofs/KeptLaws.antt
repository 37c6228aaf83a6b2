-- Items that are kept, those of another list being left out.
use Rattle.std.proofs.Common.{◌≡◌, ℕ, ◌+◌, ◌<◌, Bool, true, false, not, ◌&&◌, ◌||◌, List, [], ◌∷◌, ◌++◌, filter, length, get_or, take, cond, refl, sym, ap, ◌∙◌, append_assoc}
use Rattle.std.specs.Cmp.{both_ways}
use Rattle.std.specs.List.{list_any}
use Rattle.std.proofs.lemmas.List.{append-nil}
use Rattle.std.proofs.lemmas.List.Elements.{filter_more, filter-append}
use Rattle.std.proofs.lemmas.List.Folds.{list_any-append}
use Rattle.leg_laws.specs.Named.{Item, is_equal_item, is_listed}
use Rattle.leg_laws.proofs.SameItems.{equal_item-turned, listed-same}
use Rattle.rest_farm.specs.Archive.{kept_items, archive_items}
use Rattle.rest_farm.specs.Odds.{stays_in}

-- one more item
pub kept-more : (out items : List Item) (i : ℕ) (x : Item) (first mid new : List Item)
    → i < length items → x ≡ get_or items i x → mid ≡ first ++ kept_items out (take i items)
    → new ≡ mid ++ kept_items out (x ∷ []) → new ≡ first ++ kept_items out (take (i + 1) items)
kept-more out items i x first mid new within here so_far last =
    let one = kept_items out in
    last ∙ ap (λ (xs : List Item). xs ++ one (x ∷ [])) so_far
    ∙ append_assoc first (one (take i items)) (one (x ∷ []))
    ∙ ap (λ (y : Item). first ++ (one (take i items) ++ one (y ∷ []))) here
    ∙ ap (λ (xs : List Item). first ++ xs)
    (sym (filter_more (λ (j : Item). not (is_listed out j)) items i x within))

-- an item that is left out
pub kept-out : (out old : List Item) (x : Item) → is_listed out x ≡ true
    → old ≡ old ++ kept_items out (x ∷ [])
kept-out out old x is =
    sym (ap (λ (b : Bool). old ++ cond (not b) (x ∷ []) []) is ∙ append-nil old)

-- an item that is kept
pub kept-one : (out old new : List Item) (x y : Item) → is_listed out x ≡ false → y ≡ x
    → new ≡ old ++ y ∷ [] → new ≡ old ++ kept_items out (x ∷ [])
kept-one out old new x y is same more =
    more ∙ ap (λ (z : Item). old ++ z ∷ []) same
    ∙ sym (ap (λ (b : Bool). old ++ cond (not b) (x ∷ []) []) is)

any-filter : {A : Type 0} (p q : A → Bool) (xs : List A)
    → list_any p (filter q xs) ≡ list_any (λ x. q x && p x) xs
any-filter p q [] = refl
any-filter p q (x ∷ xs) = by (q x) refl (any-filter p q xs) where
  by : (b : Bool) → q x ≡ b → list_any p (filter q xs) ≡ list_any (λ y. q y && p y) xs
      → list_any p (filter q (x ∷ xs)) ≡ list_any (λ y. q y && p y) (x ∷ xs)
  by true is rest = rw is (ap (λ r. p x || r) rest)
  by false is rest = rw is rest

any-same : {A : Type 0} (p q : A → Bool) → ((x : A) → p x ≡ q x) → (xs : List A)
    → list_any p xs ≡ list_any q xs
any-same p q same [] = refl
any-same p q same (x ∷ xs) =
    ap (λ (b : Bool). b || list_any p xs) (same x)
    ∙ ap (λ (b : Bool). q x || b) (any-same p q same xs)

shared : (a b n : Bool) → ((a && n) || (b && n)) ≡ ((a || b) && n)
shared true true true = refl
shared true true false = refl
shared true false true = refl
shared true false false = refl
shared false b n = refl

any-shared : {A : Type 0} (p : A → Bool) (n : Bool) (xs : List A)
    → list_any (λ x. p x && n) xs ≡ (list_any p xs && n)
any-shared p n [] = refl
any-shared p n (x ∷ xs) =
    ap (λ (b : Bool). (p x && n) || b) (any-shared p n xs) ∙ shared (p x) (list_any p xs) n

turn : (gone_x gone e : Bool) → (e ≡ true → gone_x ≡ gone) → (not gone_x && e) ≡ (e && not gone)
turn true gone true same = ap not (same refl)
turn false gone true same = ap not (same refl)
turn true gone false same = refl
turn false gone false same = refl

module _ (gone : List Item) (item : Item) where
  kept-equal : (x : Item) → (not (is_listed gone x) && is_equal_item x item)
      ≡ (is_equal_item x item && not (is_listed gone item))
  kept-equal x =
      turn (is_listed gone x) (is_listed gone item) (is_equal_item x item)
      (λ equal. both_ways (is_listed gone x) (is_listed gone item)
      (λ there. listed-same gone x item equal there)
      (λ there. listed-same gone item x (equal_item-turned x item equal) there))

  -- what is kept of a list is what it has, but for what is gone
  pub listed-kept : (items : List Item) → is_listed (kept_items gone items) item
      ≡ (is_listed items item && not (is_listed gone item))
  listed-kept items =
      any-filter (λ (x : Item). is_equal_item x item) (λ (x : Item). not (is_listed gone x)) items
      ∙ any-same (λ (x : Item). not (is_listed gone x) && is_equal_item x item)
      (λ (x : Item). is_equal_item x item && not (is_listed gone item)) kept-equal items
      ∙ any-shared (λ (x : Item). is_equal_item x item) (not (is_listed gone item)) items

  pub listed-archive : (left brought list : List Item) → list ≡ archive_items left brought gone
      → is_listed list item ≡ stays_in left brought gone item
  listed-archive left brought list is =
      ap (λ (xs : List Item). is_listed xs item) is ∙ listed-kept (left ++ brought)
      ∙ ap (λ (b : Bool). b && not (is_listed gone item))
      (list_any-append (λ (x : Item). is_equal_item x item) left brought)

-- two lists that are kept, one behind the other
pub kept-both : (gone left brought first list : List Item) → first ≡ [] ++ kept_items gone left
    → list ≡ first ++ kept_items gone brought → list ≡ archive_items left brought gone
kept-both gone left brought first list so_far last =
    last ∙ ap (λ (xs : List Item). xs ++ kept_items gone brought) so_far
    ∙ sym (filter-append (λ (j : Item). not (is_listed gone j)) left brought)
