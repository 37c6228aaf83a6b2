-- Alternatives of a field that pass a test, and the places at which they stand.
use Rattle.std.proofs.Common.{◌≡◌, ℕ, zero, suc, Bool, true, false, ◌||◌, List, [], ◌∷◌, get_or, Some, refl}
use Rattle.std.specs.List.{list_any, slice_get}
use Rattle.std.proofs.lemmas.Bool.{or_left, or_right}
use Rattle.deb_relation.specs.Relations.{Atom, Entry, Relations}
use Rattle.item_index.specs.Items.{any_atom}

-- an element that passes
pub any-at : {X : Type 0} (p : X → Bool) (xs : List X) (k : ℕ) (x : X) → slice_get xs k ≡ Some x
    → p x ≡ true → list_any p xs ≡ true
any-at p [] zero x at is = absurd cc
any-at p [] (suc k) x at is = absurd cc
any-at p (y ∷ ys) zero x at is = let same : y ≡ x = cc in or_left (p y) _ (rw same is)
any-at p (y ∷ ys) (suc k) x at is = or_right (p y) _ (any-at p ys k x at is)

pub any-found : {X : Type 0} (p : X → Bool) (xs : List X) → list_any p xs ≡ true
    → (k : ℕ) × (x : X) × (slice_get xs k ≡ Some x) × (p x ≡ true)
any-found p [] some = absurd cc
any-found {X} p (y ∷ ys) some = by (p y) refl some (any-found p ys) where
  by : (b : Bool) → p y ≡ b → (b || list_any p ys) ≡ true
      → (list_any p ys ≡ true → (k : ℕ) × (x : X) × (slice_get ys k ≡ Some x) × (p x ≡ true))
      → (k : ℕ) × (x : X) × (slice_get (y ∷ ys) k ≡ Some x) × (p x ≡ true)
  by true is some later = (0, y, refl, is)
  by false is some later = let found = later some in (suc found.0, found.1, found.2, found.3)

module _ (test : Atom → Bool) where
  -- an alternative at a place that passes
  pub any_atom-at : (field : Relations) (i j : ℕ) (a : Atom)
      → slice_get (get_or field i []) j ≡ Some a → test a ≡ true → any_atom test field ≡ true
  any_atom-at [] i j a at is = absurd cc
  any_atom-at (e ∷ es) zero j a at is = or_left (list_any test e) _ (any-at test e j a at is)
  any_atom-at (e ∷ es) (suc i) j a at is = or_right (list_any test e) _ (any_atom-at es i j a at is)

  -- where some alternative passes, one stands at a place
  pub any_atom-found : (field : Relations) → any_atom test field ≡ true
      → (i : ℕ) × (e : Entry) × (j : ℕ) × (a : Atom) × (slice_get field i ≡ Some e)
      × (slice_get e j ≡ Some a) × (slice_get (get_or field i []) j ≡ Some a) × (test a ≡ true)
  any_atom-found [] some = absurd cc
  any_atom-found (e ∷ es) some = by (list_any test e) refl some (any_atom-found es) where
    by : (b : Bool) → list_any test e ≡ b → (b || any_atom test es) ≡ true
        → (any_atom test es ≡ true → (i : ℕ) × (f : Entry) × (j : ℕ) × (a : Atom)
        × (slice_get es i ≡ Some f) × (slice_get f j ≡ Some a)
        × (slice_get (get_or es i []) j ≡ Some a) × (test a ≡ true))
        → (i : ℕ) × (f : Entry) × (j : ℕ) × (a : Atom) × (slice_get (e ∷ es) i ≡ Some f)
        × (slice_get f j ≡ Some a) × (slice_get (get_or (e ∷ es) i []) j ≡ Some a)
        × (test a ≡ true)
    by true is some later =
        let found = any-found test e is in
        (0, e, found.0, found.1, refl, found.2, found.2, found.3)
    by false is some later =
        let found = later some in
        (suc found.0, found.1, found.2, found.3, found.4, found.5, found.6, found.7)
