-- Lists by index: what stands in them, and one item more.
use Rattle.std.proofs.Common.{◌≡◌, ℕ, zero, suc, Bool, true, false, List, [], ◌∷◌, ◌++◌, map, length, refl, sym, ap, subst, inl, inr, Some, ◌⊎◌, ◌||◌, All, if◌then◌else◌}
use Rattle.std.specs.Prelude.{slice_get}
use Rattle.std.specs.List.{list_any, list_all, find}
use Rattle.std.proofs.lemmas.Bool.{or_left, or_right, and_parts}
use Rattle.std.proofs.lemmas.List.Elements.{All-head, All-tail}

-- the item at an index of a longer list
pub slice_get-push : {X : Type 0} (xs : List X) (y : X) (i : ℕ) (x : X)
    → slice_get (xs ++ y ∷ []) i ≡ Some x
    → (slice_get xs i ≡ Some x) ⊎ ((i ≡ length xs) × (y ≡ x))
slice_get-push [] y zero x e = inr (refl, cc)
slice_get-push [] y (suc i) x e = absurd cc
slice_get-push (z ∷ zs) y zero x e = inl e
slice_get-push (z ∷ zs) y (suc i) x e =
    elim (slice_get-push zs y i x e) [
      | inl before ↦ inl before
      | inr last ↦ inr (ap suc last.0, last.1)
    ]

pub All-slice_get : {X : Type 0} (P : X → Type 0) (xs : List X) (i : ℕ) (x : X) → All P xs
    → slice_get xs i ≡ Some x → P x
All-slice_get P [] zero x all e = absurd cc
All-slice_get P [] (suc i) x all e = absurd cc
All-slice_get P (y ∷ ys) zero x all e = let is : y ≡ x = cc in subst P is (All-head P y ys all)
All-slice_get P (y ∷ ys) (suc i) x all e = All-slice_get P ys i x (All-tail P y ys all) e

-- the same over what is made of the items
module _ {X Y : Type 0} (m : X → Y) (p : Y → Bool) where
  pub any-map-at : (xs : List X) (i : ℕ) (x : X) → slice_get xs i ≡ Some x → p (m x) ≡ true
      → list_any p (map m xs) ≡ true
  any-map-at [] zero x e is = absurd cc
  any-map-at [] (suc i) x e is = absurd cc
  any-map-at (y ∷ ys) zero x e is =
      let same : y ≡ x = cc in or_left (p (m y)) _ (subst (λ z. p (m z) ≡ true) (sym same) is)
  any-map-at (y ∷ ys) (suc i) x e is = or_right (p (m y)) _ (any-map-at ys i x e is)

  pub any-map-found : (xs : List X) → list_any p (map m xs) ≡ true
      → (i : ℕ) × (x : X) × (slice_get xs i ≡ Some x) × (p (m x) ≡ true)
  any-map-found [] e = absurd cc
  any-map-found (y ∷ ys) e = by (p (m y)) refl e (any-map-found ys) where
    by : (b : Bool) → p (m y) ≡ b → (b || list_any p (map m ys)) ≡ true
        → (list_any p (map m ys) ≡ true
        → (i : ℕ) × (x : X) × (slice_get ys i ≡ Some x) × (p (m x) ≡ true))
        → (i : ℕ) × (x : X) × (slice_get (y ∷ ys) i ≡ Some x) × (p (m x) ≡ true)
    by true is some later = (0, y, refl, is)
    by false is some later =
        let found = later some in (suc found.0, found.1, found.2, found.3)

  pub all-map-at : (xs : List X) (i : ℕ) (x : X) → list_all p (map m xs) ≡ true
      → slice_get xs i ≡ Some x → p (m x) ≡ true
  all-map-at [] zero x all e = absurd cc
  all-map-at [] (suc i) x all e = absurd cc
  all-map-at (y ∷ ys) zero x all e =
      let same : y ≡ x = cc in
      subst (λ z. p (m z) ≡ true) same (and_parts (p (m y)) (list_all p (map m ys)) all).0
  all-map-at (y ∷ ys) (suc i) x all e =
      all-map-at ys i x (and_parts (p (m y)) (list_all p (map m ys)) all).1 e

-- what is found stands in the list, and passes
pub find-found : {X : Type 0} (p : X → Bool) (xs : List X) (x : X) → find p xs ≡ Some x
    → (i : ℕ) × (slice_get xs i ≡ Some x) × (p x ≡ true)
find-found p [] x e = absurd cc
find-found p (y ∷ ys) x e = by (p y) refl e (find-found p ys x) where
  by : (b : Bool) → p y ≡ b → (if b then Some y else find p ys) ≡ Some x
      → (find p ys ≡ Some x → (i : ℕ) × (slice_get ys i ≡ Some x) × (p x ≡ true))
      → (i : ℕ) × (slice_get (y ∷ ys) i ≡ Some x) × (p x ≡ true)
  by true is some later =
      let same : y ≡ x = cc in (0, some, subst (λ z. p z ≡ true) same is)
  by false is some later = let found = later some in (suc found.0, found.1, found.2)
