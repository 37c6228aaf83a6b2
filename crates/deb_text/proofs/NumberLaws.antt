-- Numbers of few digits are small, and what a number is in std's words.
use Rattle.std.proofs.Common.{ℕ, zero, suc, ◌<◌, ◌≤◌, ◌^◌, ◌+◌, ◌-◌, ◌*◌, ◌≡◌, true, ◌&&◌, List, [], ◌∷◌, fold, arith, refl, ap, subst, sym}
use Rattle.std.proofs.Math.Nat.{pow-suc}
use Rattle.std.proofs.lemmas.Bool.{and_parts, leb-true, lt-ltb, le-ltb}
use Rattle.std.specs.Prelude.{nat_le}
use Rattle.std.specs.Char.{digit_value}
use Rattle.std.specs.List.{list_all}
use Rattle.std.specs.Str.{all_ascii_digits}
use Rattle.std.specs.Str.Parse.{digits_value, digits_value_after}
use Rattle.deb_text.specs.Bytes.{is_digit}
use Rattle.deb_text.specs.Numbers.{number}

grow : (i k : ℕ) → 10 ^ i ≤ 10 ^ (k + i)
grow i zero = grind arith
grow i (suc k) =
    let later : 10 ^ i ≤ 10 ^ (k + i) = grow i k in
    let e : suc (k + i) ≡ suc k + i = omega arith in
    subst (λ m. 10 ^ i ≤ 10 ^ m) e
    (subst (λ p. 10 ^ i ≤ p) (sym (pow-suc 10 (k + i))) (omega (arith, later)))

-- fewer than 15 digits leave room for one more
pub below-fifteen : (n i : ℕ) → n < 10 ^ i → i < 15 → n < 100000000000000
below-fifteen n i lt le =
    let e : 14 - i + i ≡ 14 = omega arith in
    let g : 10 ^ i ≤ 10 ^ 14 = rw e at (grow i (14 - i)) in
    omega arith

-- at most 15 digits
pub within-fifteen : (n i : ℕ) → n < 10 ^ i → i ≤ 15 → n < 1000000000000000
within-fifteen n i lt le =
    let e : 15 - i + i ≡ 15 = omega arith in
    let g : 10 ^ i ≤ 10 ^ 15 = rw e at (grow i (15 - i)) in
    omega arith

pub list_all-digits : (ds : List ℕ) → all_ascii_digits ds ≡ list_all is_digit ds
list_all-digits [] = refl
list_all-digits (d ∷ ds) = ap (λ b. is_digit d && b) (list_all-digits ds)

digit-value : (d : ℕ) → is_digit d ≡ true → digit_value d ≡ d - 48
digit-value d is =
    let p = and_parts (nat_le 48 d) (nat_le d 57) is in
    let low : 48 ≤ d = leb-true 48 d p.0 in
    let high : d ≤ 57 = leb-true d 57 p.1 in
    rw (le-ltb d 48 low, lt-ltb d 58 (omega arith)) refl

number_after : (n : ℕ) (ds : List ℕ) → list_all is_digit ds ≡ true
    → fold (λ n digit. n * 10 + (digit - 48)) n ds ≡ digits_value_after 10 n ds
number_after n [] are = refl
number_after n (d ∷ ds) are =
    let p = and_parts (is_digit d) (list_all is_digit ds) are in
    rw (digit-value d p.0) (number_after (n * 10 + (d - 48)) ds p.1)

-- digits spell what std reads of them
pub number-digits_value : (ds : List ℕ) → list_all is_digit ds ≡ true
    → number ds ≡ digits_value 10 ds
number-digits_value ds are = number_after 0 ds are
