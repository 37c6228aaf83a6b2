-- Words as sets of bits.
use Rattle.std.proofs.Common.{List, [], arith, bit_or, get_or, inl, inr, set, suc, zero, ℕ, ◌∷◌, ◌≡◌}
use Rattle.std.proofs.lemmas.Bool.{cases_eq}
use Rattle.std.proofs.lemmas.Nat.Bits.{bit_at-lt, bit_at-zero, bit_at_or}
use Rattle.std.specs.Int.{bit_at}
use Rattle.archive_laws.specs.Bounds.{IsWithinBits}

-- what a word that was written into a list has, if the place is there
pub set_bits : (xs : List ℕ) (i v k : ℕ) → bit_at (get_or (set xs i v) i 0) k ≡ 1 → bit_at v k ≡ 1
set_bits [] i v k one = let z = bit_at-zero k in absurd (omega arith)
set_bits (x ∷ xs) zero v k one = one
set_bits (x ∷ xs) (suc i) v k one = set_bits xs i v k one

-- a word has its own bits with those of another, and more where it has more
pub or_grows : (a b : ℕ) → IsWithinBits a (bit_or a b)
or_grows a b k one = let m = bit_at_or a b k in let x = bit_at-lt b k in omega arith

-- a word within another stays so where both get the same bits
pub or_both : (a b c : ℕ) → IsWithinBits a b → IsWithinBits (bit_or a c) (bit_or b c)
or_both a b c h k one =
    let m = bit_at_or a c k in
    let n = bit_at_or b c k in
    let x = bit_at-lt a k in
    let y = bit_at-lt b k in
    let z = bit_at-lt c k in
    elim (cases_eq (bit_at a k) 1) [
      | inl had ↦ let t = h k had in omega arith
      | inr had_not ↦ omega arith
    ]
