-- One word by its bits.
use Rattle.std.proofs.Common.{◌≡◌, ◌≢◌, ◌↔◌, ◌⊎◌, inl, inr, ℕ, zero, suc, ◌+◌, ◌-◌, ◌*◌, ◌%◌, ◌^◌, ◌<◌, ◌≤◌, min, max, ◌==◌, true, false, not, ◌&&◌, ◌||◌, bit_and, bit_or, refl, sym, ap, ◌∙◌, arith, lit<}
use Rattle.std.specs.Int.{bit_at, bit_not}
use Rattle.std.proofs.Math.Nat.{two-pow-succ}
use Rattle.std.proofs.lemmas.Nat.{leading_top}
use Rattle.std.proofs.lemmas.Nat.Bits.{bit_at-zero, bit_at-lt, bit_at_and, bit_at_or, bit_at_xor, bit_at_not, bit_at_above, bit_at_cat_high, same_from_bits}
use mir.Syntax.{w64}
use Rattle.std.proofs.lemmas.Bool.{eq-eqb, eqb-true, ne_eqb, cases_Bool, cases_lt, both_ways, not-true, not_from_false, and_parts, and_from, and_left}
use Rattle.clause_kernel.specs.Rows.{word_has}
use Rattle.clause_kernel.specs.Kernels.{shares_bit, lies_in, meets, bits_left}

-- a word as its bits

lt_two_pow : (n : ℕ) → n < 2 ^ n
lt_two_pow zero = lit< tt
lt_two_pow (suc n) = omega (arith, lt_two_pow n, two-pow-succ n)

-- a number from 2 ^ k up to the next power has bit k
pub word_has_top : (n k : ℕ) → 2 ^ k ≤ n → n < 2 ^ suc k → word_has n k ≡ true
word_has_top n k low high =
    eq-eqb (bit_at n k) 1 (
    let rest : n - 2 ^ k < 2 ^ k = omega (arith, two-pow-succ k) in
    let whole : n ≡ 1 * 2 ^ k + (n - 2 ^ k) = omega arith in
    ap (λ m. bit_at m k) whole ∙ bit_at_cat_high 1 k (n - 2 ^ k) k rest (omega arith)
    ∙ ap (bit_at 1) (let e : k - k ≡ 0 = omega arith in e))

pub word_has_zero : (k : ℕ) → word_has 0 k ≡ false
word_has_zero k = ne_eqb (bit_at 0 k) 1 (λ e. omega (arith, bit_at-zero k))

-- and a number below 2 ^ k has no bit from k on
pub word_has_above : (n k bit : ℕ) → n < 2 ^ k → k ≤ bit → word_has n bit ≡ false
word_has_above n k bit low above = ap (λ b. b == 1) (bit_at_above n k bit low above)

-- a word that is not 0 has a bit
pub some_bit : (n : ℕ) → n ≢ 0 → (k : ℕ) × (word_has n k ≡ true)
some_bit n some =
    let t = leading_top n n (omega arith) (lt_two_pow n) in (t.0, word_has_top n t.0 t.2 t.3)

pub same_from_word_has : (x y : ℕ) → ((k : ℕ) → word_has x k ≡ word_has y k) → x ≡ y
same_from_word_has x y same =
    same_from_bits x y
    (λ k. same_bit (bit_at x k) (bit_at y k) (bit_at-lt x k) (bit_at-lt y k) (same k))
  where
    same_bit : (p q : ℕ) → p < 2 → q < 2 → (p == 1) ≡ (q == 1) → p ≡ q
    same_bit zero zero lp lq e = refl
    same_bit zero (suc zero) lp lq e = absurd (cc)
    same_bit (suc zero) zero lp lq e = absurd (cc)
    same_bit (suc zero) (suc zero) lp lq e = refl
    same_bit (suc (suc p)) q lp lq e = absurd (omega arith)
    same_bit zero (suc (suc q)) lp lq e = absurd (omega arith)
    same_bit (suc zero) (suc (suc q)) lp lq e = absurd (omega arith)

-- the operators on words

pub word_has-and : (x y k : ℕ) → word_has (bit_and x y) k ≡ (word_has x k && word_has y k)
word_has-and x y k =
    ap (λ b. b == 1) (bit_at_and x y k)
    ∙ one (bit_at x k) (bit_at y k) (bit_at-lt x k) (bit_at-lt y k)
  where
    one : (p q : ℕ) → p < 2 → q < 2 → (min p q == 1) ≡ ((p == 1) && (q == 1))
    one zero q lp lq = ap (λ m. m == 1) (let e : min zero q ≡ zero = omega arith in e)
    one (suc zero) zero lp lq = refl
    one (suc zero) (suc zero) lp lq = refl
    one (suc zero) (suc (suc q)) lp lq = absurd (omega arith)
    one (suc (suc p)) q lp lq = absurd (omega arith)

pub word_has-or : (x y k : ℕ) → word_has (bit_or x y) k ≡ (word_has x k || word_has y k)
word_has-or x y k =
    ap (λ b. b == 1) (bit_at_or x y k)
    ∙ one (bit_at x k) (bit_at y k) (bit_at-lt x k) (bit_at-lt y k)
  where
    one : (p q : ℕ) → p < 2 → q < 2 → (max p q == 1) ≡ ((p == 1) || (q == 1))
    one zero zero lp lq = refl
    one zero (suc zero) lp lq = refl
    one zero (suc (suc q)) lp lq = absurd (omega arith)
    one (suc zero) zero lp lq = refl
    one (suc zero) (suc zero) lp lq = refl
    one (suc zero) (suc (suc q)) lp lq = absurd (omega arith)
    one (suc (suc p)) q lp lq = absurd (omega arith)

pub word_has-left : (x y k : ℕ) → word_has (bits_left x y) k ≡ (word_has x k && not (word_has y k))
word_has-left x y k =
    ap (λ b. b == 1)
    (bit_at_xor x (bit_and x y) k ∙ ap (λ b. (bit_at x k + b) % 2) (bit_at_and x y k))
    ∙ one (bit_at x k) (bit_at y k) (bit_at-lt x k) (bit_at-lt y k)
  where
    one : (p q : ℕ) → p < 2 → q < 2 → ((p + min p q) % 2 == 1) ≡ ((p == 1) && not (q == 1))
    one zero zero lp lq = refl
    one zero (suc zero) lp lq = refl
    one zero (suc (suc q)) lp lq = absurd (omega arith)
    one (suc zero) zero lp lq = refl
    one (suc zero) (suc zero) lp lq = refl
    one (suc zero) (suc (suc q)) lp lq = absurd (omega arith)
    one (suc (suc p)) q lp lq = absurd (omega arith)

-- `x & !y`
pub and_not : (x y : ℕ) → x < 2 ^ 64 → y < 2 ^ 64 → bit_and x (bit_not w64 y) ≡ bits_left x y
and_not x y small_x small_y =
    same_from_word_has _ _
    (λ k. word_has-and x (bit_not w64 y) k ∙ one k (cases_lt k 64) ∙ sym (word_has-left x y k))
  where
    flip : (q : ℕ) → q < 2 → (1 - q == 1) ≡ not (q == 1)
    flip zero lq = refl
    flip (suc zero) lq = refl
    flip (suc (suc q)) lq = absurd (omega arith)

    one : (k : ℕ) → (k < 64) ⊎ (64 ≤ k)
        → (word_has x k && word_has (bit_not w64 y) k) ≡ (word_has x k && not (word_has y k))
    one k (inl lt) =
        ap (λ b. word_has x k && b)
        (ap (λ b. b == 1) (bit_at_not w64 y k small_y lt) ∙ flip (bit_at y k) (bit_at-lt y k))
    one k (inr ge) =
        let none = word_has_above x 64 k small_x ge in and_left _ _ none ∙ sym (and_left _ _ none)

-- the tests of two words

pub shares_bit-bits : (x y : ℕ) → (shares_bit x y ≡ true)
    ↔ ((k : ℕ) × (word_has x k ≡ true) × (word_has y k ≡ true))
shares_bit-bits x y = (
  (λ e.
      let s = some_bit (bit_and x y)
      (λ z. both_ways (bit_and x y == 0) (not-true _ e) (eq-eqb _ 0 z)) in
      let both = and_parts _ _ (sym (word_has-and x y s.0) ∙ s.1) in
      (s.0, both.0, both.1)),
  (λ h. not_from_false _
      (ne_eqb _ 0
      (λ z. both_ways _ (ap (λ n. word_has n h.0) z ∙ word_has_zero h.0)
      (word_has-and x y h.0 ∙ and_from _ _ h.1 h.2)))),
)

pub lies_in-bits : (x y : ℕ) → (lies_in x y ≡ true)
    ↔ ((k : ℕ) → word_has x k ≡ true → word_has y k ≡ true)
lies_in-bits x y = (
  (λ e k h.
      (and_parts (word_has x k) (word_has y k)
      (sym (word_has-and x y k) ∙ ap (λ n. word_has n k) (eqb-true _ x e) ∙ h)).1),
  (λ all. eq-eqb _ x
      (same_from_word_has _ x
      (λ k. word_has-and x y k ∙ one k (cases_Bool (word_has x k)) (all k)))),
)
  where
    one : (k : ℕ) → (word_has x k ≡ true) ⊎ (word_has x k ≡ false)
        → (word_has x k ≡ true → word_has y k ≡ true)
        → (word_has x k && word_has y k) ≡ word_has x k
    one k (inl h) all = and_from _ _ h (all h) ∙ sym h
    one k (inr n) all = and_left _ _ n ∙ sym n

pub meets-bits : (x y : ℕ) → (meets x y ≡ true)
    ↔ (((k : ℕ) × (word_has x k ≡ true)) × ((k : ℕ) → word_has x k ≡ true → word_has y k ≡ true))
meets-bits x y = (
  (λ e.
      let p = and_parts (not (x == 0)) (lies_in x y) e in
      let some = some_bit x (λ z. both_ways (x == 0) (not-true _ p.0) (eq-eqb x 0 z)) in
      (some, (lies_in-bits x y).0 p.1)),
  (λ h. and_from _ _
      (not_from_false _
      (ne_eqb x 0 (λ z. both_ways _ (ap (λ n. word_has n h.0.0) z ∙ word_has_zero h.0.0) h.0.1)))
      ((lies_in-bits x y).1 h.1)),
)
