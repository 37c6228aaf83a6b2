-- First answers of the numbers below a count, and the lists of all of them.
use Rattle.std.proofs.Common.{◌≡◌, inl, inr, ℕ, zero, suc, ◌<◌, ◌≤◌, Bool, false, List, [], ◌∷◌, ◌++◌, append_assoc, Option, Some, None, All, Contains, refl, sym, ap, subst, ◌∙◌, arith, append-nil}
use Rattle.std.specs.List.{find, list_any}
use Rattle.std.specs.Option.{IfSome, option_or}
use Rattle.std.proofs.lemmas.Bool.{cases_Bool, cases_eq}
use Rattle.std.proofs.lemmas.List.Elements.{All-append, All-nil, Contains-append_left, Contains-append_right}
use Rattle.std.proofs.lemmas.Option.{none-some}
use Rattle.explain_reasons.specs.Listed.{all_below, first_below}

module _ {A : Type 0} where
  -- what holds of each answer holds of the first
  pub of_first : (P : A → Type 0) (n : ℕ) (f : ℕ → Option A)
      → ((k : ℕ) → k < n → IfSome (f k) P) → IfSome (first_below n f) P
  of_first P zero f each = tt
  of_first P (suc n) f each =
      of_either (first_below n f) (f n) (of_first P n f (λ k lt. each k (omega arith)))
      (each n (omega arith))
    where
      of_either : (a b : Option A) → IfSome a P → IfSome b P → IfSome (option_or a b) P
      of_either None b before here = here
      of_either (Some x) b before here = before

  -- where none is found, none passes
  pub none_found : (test : A → Bool) (xs : List A) → find test xs ≡ None → list_any test xs ≡ false
  none_found test [] none = refl
  none_found test (x ∷ xs) none =
      elim (cases_Bool (test x)) [
        | inl is ↦ absurd (none-some x (sym (rw is at none)))
        | inr fails ↦ rw fails (none_found test xs (rw fails at none))
      ]

  -- ---- lists of all

  -- numbers that have none are passed over
  pub all_below-skip : (from to : ℕ) (f : ℕ → List A) → from ≤ to
      → ((k : ℕ) → from ≤ k → k < to → f k ≡ []) → all_below from f ≡ all_below to f
  all_below-skip from zero f le none = ap (λ n. all_below n f) (let e : from ≡ 0 = omega arith in e)
  all_below-skip from (suc to) f le none =
      elim (cases_eq from (suc to)) [
        | inl same ↦ ap (λ n. all_below n f) same
        | inr other ↦
            all_below-skip from to f (omega arith) (λ k above below. none k above (omega arith))
            ∙ sym (ap (λ xs. all_below to f ++ xs) (none to (omega arith) (omega arith))
            ∙ append-nil (all_below to f))
      ]

  pub nothing_below : (n : ℕ) (f : ℕ → List A) → ((k : ℕ) → k < n → f k ≡ [])
      → all_below n f ≡ []
  nothing_below n f none = sym (all_below-skip 0 n f (omega arith) (λ k above. none k))

  -- all begin with those of the first number that has any
  pub all_below-first : (n l : ℕ) (f : ℕ → List A) → l < n → ((k : ℕ) → k < l → f k ≡ [])
      → (more : List A) × (all_below n f ≡ f l ++ more)
  all_below-first zero l f lt none = absurd (omega arith)
  all_below-first (suc n) l f lt none =
      elim (cases_eq l n) [
        | inl same ↦ (
          [],
          ap (λ xs. xs ++ f n) (nothing_below n f (λ k below. none k (omega arith)))
              ∙ ap f (sym same) ∙ sym (append-nil (f l)),
        )
        | inr other ↦
            let rest = all_below-first n l f (omega arith) none in
            (rest.0 ++ f n, ap (λ xs. xs ++ f n) rest.1 ∙ append_assoc (f l) rest.0 (f n))
      ]

  -- what holds of those of each number holds of all
  pub All-all_below : (P : A → Type 0) (n : ℕ) (f : ℕ → List A)
      → ((k : ℕ) → k < n → All P (f k)) → All P (all_below n f)
  All-all_below P zero f each = All-nil P
  All-all_below P (suc n) f each =
      All-append P (all_below n f) (f n) (All-all_below P n f (λ k lt. each k (omega arith)))
      (each n (omega arith))

  -- what is among those of a number is among all
  pub Contains-all_below : (n k : ℕ) (f : ℕ → List A) (x : A) → k < n → Contains (f k) x
      → Contains (all_below n f) x
  Contains-all_below zero k f x lt is = absurd (omega arith)
  Contains-all_below (suc n) k f x lt is =
      elim (cases_eq k n) [
        | inl same ↦ Contains-append_right (all_below n f) (f n) x
            (subst (λ j. Contains (f j) x) same is)
        | inr other ↦ Contains-append_left (all_below n f) (f n) x
            (Contains-all_below n k f x (omega arith) is)
      ]
