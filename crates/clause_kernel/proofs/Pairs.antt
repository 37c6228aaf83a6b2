-- Tests of two rows, pair by pair.
use Rattle.std.proofs.Common.{◌≡◌, ◌⊎◌, inl, inr, ℕ, zero, suc, ◌<◌, Bool, true, false, not, ◌&&◌, ◌||◌, List, [], ◌∷◌, length, get_or, refl, sym, ap, ◌∙◌, arith}
use Rattle.std.proofs.lemmas.Bool.{cases_Bool, or_left, or_right, and_parts, and_from}
use Rattle.clause_kernel.specs.Kernels.{some_pair, every_pair}

-- where some pair passes
pub some_pair-at : (t : ℕ → ℕ → Bool) (a b : List ℕ) → some_pair t a b ≡ true
    → (i : ℕ) × (t (get_or a i 0) (get_or b i 0) ≡ true)
some_pair-at t [] ys e = absurd (cc)
some_pair-at t (x ∷ xs) [] e = absurd (cc)
some_pair-at t (x ∷ xs) (y ∷ ys) e = by (cases_Bool (t x y)) (some_pair-at t xs ys)
  where
    by : (t x y ≡ true) ⊎ (t x y ≡ false)
        → (some_pair t xs ys ≡ true → (i : ℕ) × (t (get_or xs i 0) (get_or ys i 0) ≡ true))
        → (i : ℕ) × (t (get_or (x ∷ xs) i 0) (get_or (y ∷ ys) i 0) ≡ true)
    by (inl is) rec = (0, is)
    by (inr fails) rec =
        let r = rec (sym (ap (λ v. v || some_pair t xs ys) fails) ∙ e) in (suc r.0, r.1)

-- one pair that passes
pub some_pair-from : (t : ℕ → ℕ → Bool) (a b : List ℕ) (i : ℕ) → length a ≡ length b → i < length a
    → t (get_or a i 0) (get_or b i 0) ≡ true → some_pair t a b ≡ true
some_pair-from t [] ys i long lt e = absurd (omega arith)
some_pair-from t (x ∷ xs) [] i long lt e = absurd (omega arith)
some_pair-from t (x ∷ xs) (y ∷ ys) zero long lt e = or_left _ _ e
some_pair-from t (x ∷ xs) (y ∷ ys) (suc i) long lt e =
    or_right _ _ (some_pair-from t xs ys i (omega arith) (omega arith) e)

-- where each pair passes, one does
pub every_pair-at : (t : ℕ → ℕ → Bool) (a b : List ℕ) (i : ℕ) → length a ≡ length b → i < length a
    → every_pair t a b ≡ true → t (get_or a i 0) (get_or b i 0) ≡ true
every_pair-at t [] ys i long lt e = absurd (omega arith)
every_pair-at t (x ∷ xs) [] i long lt e = absurd (omega arith)
every_pair-at t (x ∷ xs) (y ∷ ys) zero long lt e = (and_parts _ _ e).0
every_pair-at t (x ∷ xs) (y ∷ ys) (suc i) long lt e =
    every_pair-at t xs ys i (omega arith) (omega arith) (and_parts (t x y) _ e).1

pub every_pair-from : (t : ℕ → ℕ → Bool) (a b : List ℕ)
    → ((i : ℕ) → t (get_or a i 0) (get_or b i 0) ≡ true) → every_pair t a b ≡ true
every_pair-from t [] ys all = refl
every_pair-from t (x ∷ xs) [] all = refl
every_pair-from t (x ∷ xs) (y ∷ ys) all =
    and_from _ _ (all 0) (every_pair-from t xs ys (λ i. all (suc i)))

-- no pair fails
pub not-some_pair : (t : ℕ → ℕ → Bool) (a b : List ℕ)
    → not (some_pair (λ x y. not (t x y)) a b) ≡ every_pair t a b
not-some_pair t [] ys = refl
not-some_pair t (x ∷ xs) [] = refl
not-some_pair t (x ∷ xs) (y ∷ ys) = one (t x y) _ ∙ ap (λ v. t x y && v) (not-some_pair t xs ys)
  where
    one : (p q : Bool) → not (not p || q) ≡ (p && not q)
    one true q = refl
    one false q = refl
