-- A vector of bytes beside another, and whether some lane differs.
use Rattle.std.proofs.Common.{◌≡◌, ℕ, ◌%◌, ◌^◌, ◌-◌, ◌≤◌, ◌==◌, eqb, Bool, true, false, not, cond, List, [], ◌∷◌, map, length, refl, arith}
use Rattle.std.specs.Prelude.{◌↔◌, IsTrue}
use Rattle.std.specs.Simd.Lanes.{zip2}
use Rattle.std.proofs.lemmas.Simd.{mask_l-mod}
use lib.Lanes.{mask_l, top}
use Rattle.clause_kernel.proofs.Lanes.{any-mask, length-tests}
use Rattle.clause_kernel.proofs.Meanings.{same-equal}
use Rattle.clause_kernel.proofs.Pairs.{not-some_pair}

-- a lane of a comparison is all ones or 0
top-mask : (b : Bool) → top 7 (cond b (2 ^ 8 - 1) 0) ≡ b
top-mask true = refl
top-mask false = refl

tests : (f : ℕ → ℕ → ℕ) → ((x y : ℕ) → f x y ≡ cond (not (x == y)) (2 ^ 8 - 1) 0) → (xs ys : List ℕ)
    → map (top 7) (zip2 f xs ys) ≡ zip2 (λ x y. not (x == y)) xs ys
tests f each [] ys = refl
tests f each (x ∷ xs) [] = refl
tests f each (x ∷ xs) (y ∷ ys) =
    rw (each x y, top-mask (not (x == y)), tests f each xs ys) refl

-- no lane of at most 64 differs where the bytes are the same
pub same-lanes : (f : ℕ → ℕ → ℕ) → ((x y : ℕ) → f x y ≡ cond (not (x == y)) (2 ^ 8 - 1) 0)
    → (xs ys : List ℕ) → length xs ≤ 64 → length xs ≡ length ys
    → IsTrue (not (not (eqb (mask_l (map (top 7) (zip2 f xs ys)) % 2 ^ 64) 0))) ↔ (xs ≡ ys)
same-lanes f each xs ys few long =
    let t : ℕ → ℕ → Bool = λ x y. not (x == y) in
    rw (
      tests f each xs ys,
      mask_l-mod (zip2 t xs ys) 64 (omega (arith, few, length-tests t xs ys)),
      any-mask t xs ys,
      not-some_pair ◌==◌ xs ys,
    ) (same-equal xs ys long)
