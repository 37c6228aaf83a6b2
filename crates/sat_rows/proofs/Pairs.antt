-- Rows that stand beside the entries that they are of.
use Rattle.std.proofs.Common.{◌≡◌, ℕ, zero, suc, ◌<◌, List, [], ◌∷◌, length, get_or, Some, arith, subst}
use Rattle.std.specs.List.{AllZip, slice_get}
use Rattle.std.proofs.lemmas.Option.{get_or_from_slice_get, slice_get_within}
use Rattle.std.proofs.lemmas.Slice.Zip.{AllZip-long}

-- as many rows as entries
pub paired_within : {A B : Type 0} (R : A → B → Type 0) (xs : List A) (ys : List B) (i : ℕ)
    → AllZip R xs ys → i < length xs → i < length ys
paired_within R xs ys i all lt = let long = AllZip-long R xs ys all in omega arith

-- the row beside an entry
pub paired_at : {A B : Type 0} (R : A → B → Type 0) (xs : List A) (ys : List B) (i : ℕ) (d : A)
    (e : B) → AllZip R xs ys → i < length xs → R (get_or xs i d) (get_or ys i e)
paired_at R [] ys i d e all lt = absurd (omega arith)
paired_at R (x ∷ xs) [] i d e all lt = absurd all
paired_at R (x ∷ xs) (y ∷ ys) zero d e all lt = all.0
paired_at R (x ∷ xs) (y ∷ ys) (suc i) d e all lt = paired_at R xs ys i d e all.1 (omega arith)

-- the row beside what is read of a list
pub paired_with : {A B : Type 0} (R : A → B → Type 0) (xs : List A) (ys : List B) (i : ℕ) (x : A)
    (e : B) → AllZip R xs ys → slice_get xs i ≡ Some x → R x (get_or ys i e)
paired_with R xs ys i x e all is =
    subst (λ z. R z (get_or ys i e)) (get_or_from_slice_get xs i x x is)
    (paired_at R xs ys i x e all (slice_get_within xs i x is))
