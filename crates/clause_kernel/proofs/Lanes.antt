-- A vector of tests, and what `any` makes of it.
use Rattle.std.proofs.Common.{◌≡◌, ℕ, zero, suc, ◌+◌, ◌*◌, ◌%◌, ◌^◌, ◌-◌, ◌<◌, ◌≤◌, eqb, Bool, true, false, not, cond, ◌||◌, List, [], ◌∷◌, map, length, replicate, refl, sym, ap, ◌∙◌, arith}
use Rattle.std.specs.Simd.Lanes.{zip2}
use Rattle.std.proofs.lemmas.Simd.{mask_l-mod}
use Rattle.std.proofs.lemmas.Bool.{ne_eqb}
use lib.Lanes.{mask_l, top}
use Rattle.clause_kernel.specs.Kernels.{some_pair}

-- some test of a vector holds where its mask has a bit
pub any-mask : (t : ℕ → ℕ → Bool) (xs ys : List ℕ)
    → not (eqb (mask_l (zip2 t xs ys)) 0) ≡ some_pair t xs ys
any-mask t [] ys = refl
any-mask t (x ∷ xs) [] = refl
any-mask t (x ∷ xs) (y ∷ ys) =
    one (t x y) (mask_l (zip2 t xs ys)) (some_pair t xs ys) (any-mask t xs ys)
  where
    nonzero : (n : ℕ) → 0 < n → not (eqb n 0) ≡ true
    nonzero n some = ap not (ne_eqb n 0 (λ e. omega arith))

    twice : (m : ℕ) → not (eqb (0 + 2 * m) 0) ≡ not (eqb m 0)
    twice zero = refl
    twice (suc m) = nonzero (0 + 2 * suc m) (omega arith) ∙ sym (nonzero (suc m) (omega arith))

    one : (b : Bool) (m : ℕ) (c : Bool) → not (eqb m 0) ≡ c
        → not (eqb (cond b 1 zero + 2 * m) 0) ≡ (b || c)
    one true m c e = nonzero (1 + 2 * m) (omega arith)
    one false m c e = twice m ∙ e

-- no more tests than lanes
pub length-tests : (t : ℕ → ℕ → Bool) (xs ys : List ℕ) → length (zip2 t xs ys) ≤ length xs
length-tests t [] ys = omega arith
length-tests t (x ∷ xs) [] = omega arith
length-tests t (x ∷ xs) (y ∷ ys) = omega (arith, length-tests t xs ys)

-- `any` of a vector of eight tests
pub any-lanes : (t : ℕ → ℕ → Bool) (tests : List Bool) (xs ys : List ℕ) → tests ≡ zip2 t xs ys
    → length xs ≡ 8 → not (eqb (mask_l tests % 2 ^ 64) 0) ≡ some_pair t xs ys
any-lanes t tests xs ys are long =
    ap (λ l. not (eqb (mask_l l % 2 ^ 64) 0)) are
    ∙ (ap (λ n. not (eqb n 0))
    (mask_l-mod (zip2 t xs ys) 64 (omega (arith, length-tests t xs ys))) ∙ any-mask t xs ys)

-- a lane of a comparison is all ones or 0
pub top-mask : (b : Bool) → top 63 (cond b (2 ^ 64 - 1) 0) ≡ b
top-mask true = refl
top-mask false = refl

-- compare x with y
pub tests-pair : (f : ℕ → ℕ → ℕ) (t : ℕ → ℕ → Bool) → ((x y : ℕ) → top 63 (f x y) ≡ t x y)
    → (xs ys : List ℕ) → map (top 63) (zip2 f xs ys) ≡ zip2 t xs ys
tests-pair f t each [] ys = refl
tests-pair f t each (x ∷ xs) [] = refl
tests-pair f t each (x ∷ xs) (y ∷ ys) = λ i. each x y i ∷ tests-pair f t each xs ys i

-- compare g x y with a splat of z
pub tests-splat : (f g : ℕ → ℕ → ℕ) (z : ℕ) (t : ℕ → ℕ → Bool)
    → ((x y : ℕ) → top 63 (f (g x y) z) ≡ t x y)
    → (n : ℕ) (xs ys : List ℕ) → length xs ≡ n → length ys ≡ n
    → map (top 63) (zip2 f (zip2 g xs ys) (replicate n z)) ≡ zip2 t xs ys
tests-splat f g z t each zero [] ys a b = refl
tests-splat f g z t each zero (x ∷ xs) ys a b = absurd (omega arith)
tests-splat f g z t each (suc n) [] ys a b = absurd (omega arith)
tests-splat f g z t each (suc n) (x ∷ xs) [] a b = absurd (omega arith)
tests-splat f g z t each (suc n) (x ∷ xs) (y ∷ ys) a b =
    λ i. each x y i ∷ tests-splat f g z t each n xs ys (omega arith) (omega arith) i

-- compare g x y with x
pub tests-first : (f g : ℕ → ℕ → ℕ) (t : ℕ → ℕ → Bool) → ((x y : ℕ) → top 63 (f (g x y) x) ≡ t x y)
    → (xs ys : List ℕ) → map (top 63) (zip2 f (zip2 g xs ys) xs) ≡ zip2 t xs ys
tests-first f g t each [] ys = refl
tests-first f g t each (x ∷ xs) [] = refl
tests-first f g t each (x ∷ xs) (y ∷ ys) = λ i. each x y i ∷ tests-first f g t each xs ys i

-- compare x with a splat of z, and g x y with x, and join both by m
pub tests-both : (m e f g : ℕ → ℕ → ℕ) (z : ℕ) (t : ℕ → ℕ → Bool)
    → ((x y : ℕ) → top 63 (m (e x z) (f (g x y) x)) ≡ t x y)
    → (n : ℕ) (xs ys : List ℕ) → length xs ≡ n → length ys ≡ n
    → map (top 63) (zip2 m (zip2 e xs (replicate n z)) (zip2 f (zip2 g xs ys) xs)) ≡ zip2 t xs ys
tests-both m e f g z t each zero [] ys a b = refl
tests-both m e f g z t each zero (x ∷ xs) ys a b = absurd (omega arith)
tests-both m e f g z t each (suc n) [] ys a b = absurd (omega arith)
tests-both m e f g z t each (suc n) (x ∷ xs) [] a b = absurd (omega arith)
tests-both m e f g z t each (suc n) (x ∷ xs) (y ∷ ys) a b =
    λ i. each x y i ∷ tests-both m e f g z t each n xs ys (omega arith) (omega arith) i
