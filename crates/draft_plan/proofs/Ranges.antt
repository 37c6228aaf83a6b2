-- One number more, behind those from 0 on.
use Rattle.std.proofs.Common.{◌≡◌, ℕ, zero, suc, ◌+◌, Bool, List, [], ◌∷◌, ◌++◌, map, cond, arith, ap, ◌∙◌}
use Rattle.std.proofs.lemmas.List.Elements.{filter-append}
use Rattle.std.proofs.lemmas.List.FromFn.{map-range_with_len_more}
use Rattle.std.specs.List.{filter, range_with_len}

last : (a n j : ℕ) → a + n ≡ j → range_with_len a (suc n) ≡ range_with_len a n ++ j ∷ []
last a zero j e = ap (λ k. k ∷ []) (let g : a ≡ j = omega (arith, e) in g)
last a (suc n) j e = ap (λ xs. a ∷ xs) (last (a + 1) n j (omega (arith, e)))

-- the numbers
pub numbers-more : (n : ℕ) → range_with_len 0 (n + 1) ≡ range_with_len 0 n ++ n ∷ []
numbers-more n =
    ap (range_with_len 0) (let e : n + 1 ≡ suc n = omega arith in e)
    ∙ last 0 n n (omega arith)

-- what they are mapped to
pub mapped-more : {X : Type 0} (f : ℕ → X) (n : ℕ) → map f (range_with_len 0 (n + 1))
    ≡ map f (range_with_len 0 n) ++ f n ∷ []
mapped-more f n = map-range_with_len_more f 0 n n (omega arith)

-- those that pass a test
pub passing-more : (p : ℕ → Bool) (n : ℕ) → filter p (range_with_len 0 (n + 1))
    ≡ filter p (range_with_len 0 n) ++ cond (p n) (n ∷ []) []
passing-more p n =
    ap (filter p) (numbers-more n) ∙ filter-append p (range_with_len 0 n) (n ∷ [])
