-- The sizes of the variants of a set.
use Rattle.std.proofs.Common.{◌≡◌, ℕ, zero, suc, Bool, if◌then◌else◌, refl, ap, arith}
use Rattle.clause_kernel.specs.Rows.{word_has}
use Rattle.clause_kernel.proofs.Words.{word_has_zero}
use Rattle.farm_model.specs.Below.{greatest_below}

-- no variant has a size
pub greatest_of_none : (n : ℕ) (f : ℕ → ℕ) → greatest_below n (word_has 0) f ≡ 0
greatest_of_none zero f = refl
greatest_of_none (suc n) f =
    let below = greatest_of_none n f in
    let own : (if word_has 0 n then f n else 0) ≡ 0 =
    ap (λ (t : Bool). if t then f n else 0) (word_has_zero n) in
    omega (arith, own, below)
