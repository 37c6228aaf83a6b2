-- Lists by the numbers of their elements.
use Rattle.std.proofs.Common.{◌≡◌, ℕ, zero, suc, ◌<◌, Bool, true, false, ◌||◌, List, [], ◌∷◌, length, refl, sym, ap, ◌∙◌, arith}
use Rattle.std.specs.Cmp.{both_ways as same_tests}
use Rattle.std.specs.Prelude.{slice_get, slice_index_or}
use Rattle.std.specs.List.{list_any}
use Rattle.std.proofs.lemmas.Option.{slice_get-get_or}
use Rattle.may_rows.specs.Words.{passes_if}
use Rattle.farm_model.specs.Below.{some_below}
use Rattle.farm_model.proofs.BelowLaws.{some_below-at, some_below-found}

first_or_rest : {X : Type 0} (p : X → Bool) (none x : X) (xs : List X) (t : Bool) → p x ≡ t
    → (p x || list_any p xs) ≡ true
    → (list_any p xs ≡ true → (i : ℕ) × (i < length xs) × (p (slice_index_or xs i none) ≡ true))
    → (i : ℕ) × (i < length (x ∷ xs)) × (p (slice_index_or (x ∷ xs) i none) ≡ true)
first_or_rest p none x xs true is some rest = (0, omega arith, is)
first_or_rest p none x xs false is some rest =
    let found = rest (rw is at some) in (suc found.0, omega (arith, found.1), found.2)

pub any-found : {X : Type 0} (p : X → Bool) (none : X) (xs : List X) → list_any p xs ≡ true
    → (i : ℕ) × (i < length xs) × (p (slice_index_or xs i none) ≡ true)
any-found p none [] some = cc
any-found p none (x ∷ xs) some =
    first_or_rest p none x xs (p x) refl some (any-found p none xs)

pub any-at : {X : Type 0} (p : X → Bool) (none : X) (xs : List X) (i : ℕ) → i < length xs
    → p (slice_index_or xs i none) ≡ true → list_any p xs ≡ true
any-at p none [] i lt is = absurd (omega arith)
any-at p none (x ∷ xs) zero lt is = rw is refl
any-at p none (x ∷ xs) (suc i) lt is =
    rw (any-at p none xs i (omega arith) is) (grind arith)

-- some element passes where its number does
pub any-numbers : {X : Type 0} (p : X → Bool) (none : X) (xs : List X)
    → some_below (length xs) (λ i. p (slice_index_or xs i none)) ≡ list_any p xs
any-numbers p none xs =
    same_tests _ _
    (λ some. let f = some_below-found (length xs) (λ i. p (slice_index_or xs i none)) some in
    any-at p none xs f.0 f.1 f.2)
    (λ some. let f = any-found p none xs some in
    some_below-at (length xs) (λ i. p (slice_index_or xs i none)) f.0 f.1 f.2)

-- the same where a number may be past the end
pub any-got : {X : Type 0} (p : X → Bool) (xs : List X)
    → some_below (length xs) (λ i. passes_if p (slice_get xs i)) ≡ list_any p xs
any-got p [] = refl
any-got p (x ∷ xs) =
    same_tests _ _
    (λ some. let f = some_below-found (suc (length xs))
    (λ i. passes_if p (slice_get (x ∷ xs) i)) some in
    any-at p x (x ∷ xs) f.0 f.1
    (ap (passes_if p) (sym (slice_get-get_or (x ∷ xs) f.0 x f.1)) ∙ f.2))
    (λ some. let f = any-found p x (x ∷ xs) some in
    some_below-at (suc (length xs)) (λ i. passes_if p (slice_get (x ∷ xs) i)) f.0 f.1
    (ap (passes_if p) (slice_get-get_or (x ∷ xs) f.0 x f.1) ∙ f.2))
