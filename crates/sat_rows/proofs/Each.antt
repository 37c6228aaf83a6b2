-- The elements of a list that a loop has passed.
use Rattle.std.proofs.Common.{◌≡◌, ℕ, ◌+◌, ◌<◌, ◌≤◌, List, length, get_or, Some, inl, inr, subst, ◌∙◌, arith}
use Rattle.std.specs.List.{slice_get}
use Rattle.std.proofs.lemmas.Bool.{cases_lt}
use Rattle.std.proofs.lemmas.Option.{slice_get_within, get_or_from_slice_get}

-- each element before this place
abbrev pub Before : {A : Type 0} → (A → Type 0) → List A → ℕ → Type 0
Before {A} P xs n = (i : ℕ) (x : A) → i < n → slice_get xs i ≡ Some x → P x

pub before_next : {A : Type 0} (P Q : A → Type 0) (xs : List A) (n : ℕ) (y : A)
    → y ≡ get_or xs n y → ((x : A) → P x → Q x) → Before P xs n → Q y → Before Q xs (n + 1)
before_next P Q xs n y at on before here i x lt is =
    elim (cases_lt i n) [
      | inl old ↦ on x (before i x old is)
      | inr ge ↦
          let last : i ≡ n = omega arith in
          subst Q
          (at ∙ get_or_from_slice_get xs n x y (subst (λ k. slice_get xs k ≡ Some x) last is)) here
    ]

pub before_end : {A : Type 0} (P : A → Type 0) (xs : List A) (n : ℕ) → length xs ≤ n
    → Before P xs n → (i : ℕ) (x : A) → slice_get xs i ≡ Some x → P x
before_end P xs n long before i x is =
    let lt = slice_get_within xs i x is in before i x (omega arith) is

-- one more number
pub below_next : (P Q : ℕ → Type 0) (n : ℕ) → ((i : ℕ) → P i → Q i) → ((i : ℕ) → i < n → P i)
    → Q n → (i : ℕ) → i < n + 1 → Q i
below_next P Q n on before here i lt =
    elim (cases_lt i n) [
      | inl old ↦ on i (before i old)
      | inr ge ↦ let last : n ≡ i = omega arith in subst Q last here
    ]
