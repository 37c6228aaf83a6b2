-- Two lists side by side: what holds of each pair while the second one grows.
use Rattle.std.proofs.Common.{◌⊎◌, inl, inr, ◌≡◌, ℕ, zero, suc, List, [], ◌∷◌, ◌++◌, Some, None, length, drop, slice_get, refl, sym, ap, subst, ◌∙◌, arith}
use Rattle.std.proofs.lemmas.Option.{same_Some}
use Rattle.archive_laws.proofs.Settles.{next_of}

module _ {A B : Type 0} (P : A → B → Type 0) where
  abbrev pub Paired : List A → List B → Type 0
  Paired xs ys = (k : ℕ) (x : A) (y : B) → slice_get xs k ≡ Some x → slice_get ys k ≡ Some y → P x y

  pub paired_none : (xs : List A) (ys : List B) → ys ≡ [] → Paired xs ys
  paired_none xs ys e k x y p q = let z : slice_get ys k
      ≡ None = ap (λ (l : List B). slice_get l k) e in absurd (cc)

  pub paired_more : (xs : List A) (ys : List B) (x : A) (rest : List A) (y : B)
      → drop (length ys) xs ≡ x ∷ rest → P x y → Paired xs ys → Paired xs (ys ++ y ∷ [])
  paired_more [] [] x rest y e p h k a b q r = absurd (cc)
  paired_more [] (z ∷ ys) x rest y e p h k a b q r = absurd (cc)
  paired_more (w ∷ xs) [] x rest y e p h zero a b q r = let s : w ≡ x = cc in let t : w
      ≡ a = cc in let u : y ≡ b = cc in subst (λ (m : A × B). P m.0 m.1) (λ i. ((sym s ∙ t) i, u i))
      p
  paired_more (w ∷ xs) [] x rest y e p h (suc k) a b q r = absurd (cc)
  paired_more (w ∷ xs) (z ∷ ys) x rest y e p h zero a b q r = h 0 a b q r
  paired_more (w ∷ xs) (z ∷ ys) x rest y e p h (suc k) a b q r = paired_more xs ys x rest y e p
      (λ j. h (suc j)) k a b q r

pub drop_more : {A : Type 0} (n : ℕ) (xs : List A) (x : A) (rest : List A) → drop n xs ≡ x ∷ rest
    → drop (suc n) xs ≡ rest
drop_more zero [] x rest e = absurd (cc)
drop_more zero (y ∷ ys) x rest e = cc
drop_more (suc n) [] x rest e = absurd (cc)
drop_more (suc n) (y ∷ ys) x rest e = drop_more n ys x rest e

pub some_at : {A B : Type 0} (xs : List A) (ys : List B) (k : ℕ) (x : A) → length ys ≡ length xs
    → slice_get xs k ≡ Some x → (y : B) × (slice_get ys k ≡ Some y)
some_at [] ys k x e h = absurd (cc)
some_at (a ∷ xs) [] k x e h = absurd (omega arith)
some_at (a ∷ xs) (y ∷ ys) zero x e h = (y, refl)
some_at (a ∷ xs) (y ∷ ys) (suc k) x e h = some_at xs ys k x (omega arith) h

-- where one more stands at the end of a list
pub at_push_place : {X : Type 0} (xs : List X) (y z : X) (k : ℕ)
    → slice_get (xs ++ y ∷ []) k ≡ Some z
    → (slice_get xs k ≡ Some z) ⊎ ((k ≡ length xs) × (y ≡ z))
at_push_place [] y z zero e = inr (refl, same_Some y z e)
at_push_place [] y z (suc k) e = absurd (cc)
at_push_place (x ∷ xs) y z zero e = inl e
at_push_place (x ∷ xs) y z (suc k) e =
    elim (at_push_place xs y z k e) [
      | inl old ↦ inl old
      | inr new ↦ inr (ap suc new.0, new.1)
    ]

-- where items pair by their places, one more pair at the end
pub paired_at : {A B : Type 0} (P : ℕ → A → B → Type 0) (xs : List A) (ys : List B) (x : A)
    (rest : List A) (y : B) → drop (length ys) xs ≡ x ∷ rest → P (length ys) x y
    → ((k : ℕ) (a : A) (b : B) → slice_get xs k ≡ Some a → slice_get ys k ≡ Some b → P k a b)
    → (k : ℕ) (a : A) (b : B) → slice_get xs k ≡ Some a → slice_get (ys ++ y ∷ []) k ≡ Some b
    → P k a b
paired_at P xs ys x rest y at new old k a b is there =
    elim (at_push_place ys y b k there) [
      | inl before ↦ old k a b is before
      | inr last ↦
          let here : x ≡ a =
          same_Some x a (sym (next_of xs (length ys) x rest at).0 ∙ ap (slice_get xs) (sym last.0)
          ∙ is) in
          subst (λ (m : _ × _). P k m.0 m.1) (λ i. (here i, last.1 i))
          (subst (λ n. P n x y) (sym last.0) new)
    ]
