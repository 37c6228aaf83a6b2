-- Places of a list in which one item is replaced.
use Rattle.std.proofs.Common.{◌≡◌, ℕ, zero, suc, List, [], ◌∷◌, Some, slice_get, slice_set, refl, ap}
use Rattle.std.proofs.lemmas.Option.{same_Some}

pub at_set_other : {X : Type 0} (xs : List X) (i k : ℕ) (y : X) → (k ≡ i → ⊥)
    → slice_get (slice_set xs i y) k ≡ slice_get xs k
at_set_other [] i k y other = refl
at_set_other (x ∷ xs) zero zero y other = absurd (other refl)
at_set_other (x ∷ xs) zero (suc k) y other = refl
at_set_other (x ∷ xs) (suc i) zero y other = refl
at_set_other (x ∷ xs) (suc i) (suc k) y other = at_set_other xs i k y (λ e. other (ap suc e))

pub at_set_here : {X : Type 0} (xs : List X) (i : ℕ) (y z : X)
    → slice_get (slice_set xs i y) i ≡ Some z → y ≡ z
at_set_here [] i y z e = absurd (cc)
at_set_here (x ∷ xs) zero y z e = same_Some y z e
at_set_here (x ∷ xs) (suc i) y z e = at_set_here xs i y z e
