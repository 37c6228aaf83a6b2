-- A list that is gone through from its beginning, item after item.
use Rattle.std.proofs.Common.{◌≡◌, ℕ, zero, suc, ◌<◌, List, [], ◌∷◌, ◌++◌, length, map, take, refl, sym, ap, ◌∙◌, arith}
use Rattle.std.specs.Prelude.{slice_set, slice_get, Some}
use Rattle.std.proofs.lemmas.Option.{same_Some}

-- with what is left mapped, one item further
pub more_mapped : {A B : Type 0} (f : A → B) (out : List B) (left : List A) (x : A)
    (rest : List A) (all : List B) → left ≡ x ∷ rest → out ++ map f left ≡ all
    → (out ++ f x ∷ []) ++ map f rest ≡ all
more_mapped f out left x rest all is e =
    pushed out (f x) (map f rest) ∙ ap (λ xs. out ++ map f xs) (sym is) ∙ e
  where
    pushed : {B : Type 0} (out : List B) (y : B) (ys : List B) → (out ++ y ∷ []) ++ ys ≡ out ++ y
        ∷ ys
    pushed [] y ys = refl
    pushed (z ∷ out) y ys = ap (λ xs. z ∷ xs) (pushed out y ys)

-- and with none left
pub all_mapped : {A B : Type 0} (f : A → B) (out : List B) (left : List A) (all : List B)
    → left ≡ [] → out ++ map f left ≡ all → out ≡ all
all_mapped f out left all none e = sym (ended out) ∙ ap (λ xs. out ++ map f xs) (sym none) ∙ e
  where
    ended : {B : Type 0} (out : List B) → out ++ [] ≡ out
    ended [] = refl
    ended (z ∷ out) = ap (λ xs. z ∷ xs) (ended out)

-- the first items, where the last of them was written
pub take_set : {A : Type 0} (xs : List A) (i : ℕ) (y : A) → i < length xs
    → take (suc i) (slice_set xs i y) ≡ take i xs ++ y ∷ []
take_set [] i y lt = absurd (omega arith)
take_set (x ∷ xs) zero y lt = refl
take_set (x ∷ xs) (suc i) y lt = ap (λ zs. x ∷ zs) (take_set xs i y (omega arith))

-- a mapped list has at each place what stands there
pub at_mapped : {A B : Type 0} (f : A → B) (xs : List A) (i : ℕ) (y : B)
    → slice_get (map f xs) i ≡ Some y → (x : A) × (slice_get xs i ≡ Some x) × (f x ≡ y)
at_mapped f [] i y e = absurd (cc)
at_mapped f (x ∷ xs) zero y e = (x, refl, same_Some (f x) y e)
at_mapped f (x ∷ xs) (suc i) y e = at_mapped f xs i y e

-- what was mapped, each as one that is there
pub mapped_twice : {A B : Type 0} (f : A → B) (xs : List A)
    → map (λ x. Some (f x)) xs ≡ map (λ y. Some y) (map f xs)
mapped_twice f [] = refl
mapped_twice f (x ∷ xs) = ap (λ zs. Some (f x) ∷ zs) (mapped_twice f xs)
