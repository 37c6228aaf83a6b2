-- What the tests and changes of two rows mean, by positions and bits.
use Rattle.std.proofs.Common.{◌≡◌, ◌↔◌, inl, inr, ℕ, zero, suc, ◌<◌, ◌^◌, Bool, true, false, not, ◌&&◌, ◌||◌, ◌==◌, List, [], ◌∷◌, length, get_or, bit_and, bit_or, refl, sym, ap, ap₂, ◌∙◌, arith}
use Rattle.std.specs.Int.{bit_not}
use Rattle.std.specs.Simd.Lanes.{zip2}
use Rattle.std.proofs.lemmas.Bool.{both_ways, cases_lt, and_parts, eqb-true, eq-eqb}
use Rattle.std.proofs.lemmas.List.{get_or_past}
use mir.Syntax.{w64}
use Rattle.clause_kernel.specs.Rows.{word_has, row_has, Has, Hits, Met, Within, HasEither, HasBoth, HasRest}
use Rattle.clause_kernel.specs.Kernels.{shares_bit, lies_in, meets, bits_left, hits, met, within, same_rows, joined, common, remaining}
use Rattle.clause_kernel.proofs.Words.{word_has_zero, word_has-and, word_has-or, word_has-left, same_from_word_has, shares_bit-bits, lies_in-bits, meets-bits, and_not}
use Rattle.clause_kernel.proofs.Pairs.{some_pair-at, some_pair-from, every_pair-at, every_pair-from}

-- a set bit stands at a position of the row
pub position_of : (row : List ℕ) (i k : ℕ) → Has row i k → i < length row
position_of row i k h =
    elim (cases_lt i (length row)) [
      | inl lt ↦ lt
      | inr ge ↦ absurd
          (both_ways _ (ap (λ w. word_has w k) (get_or_past row i 0 ge) ∙ word_has_zero k) h)
    ]

pub hits-bits : (a b : List ℕ) → length a ≡ length b → (hits a b ≡ true) ↔ Hits a b
hits-bits a b long = (
  (λ e. let s = some_pair-at shares_bit a b e in let both = (shares_bit-bits _ _).0 s.1 in
      (s.0, both.0, both.1, both.2)),
  (λ h. some_pair-from shares_bit a b h.0 long (position_of a h.0 h.1 h.2)
      ((shares_bit-bits _ _).1 (h.1, h.2, h.3))),
)

pub met-bits : (a b : List ℕ) → length a ≡ length b → (met a b ≡ true) ↔ Met a b
met-bits a b long = (
  (λ e. let s = some_pair-at meets a b e in let m = (meets-bits _ _).0 s.1 in
      (s.0, m.0, m.1)),
  (λ h. some_pair-from meets a b h.0 long (position_of a h.0 h.1.0 h.1.1)
      ((meets-bits _ _).1 (h.1, h.2))),
)

pub within-bits : (a b : List ℕ) → length a ≡ length b → (within a b ≡ true) ↔ Within a b
within-bits a b long = (
  (λ e i k h. (lies_in-bits _ _).0 (every_pair-at lies_in a b i long (position_of a i k h) e) k h),
  (λ all. every_pair-from lies_in a b (λ i. (lies_in-bits _ _).1 (all i))),
)

pub same-equal : (a b : List ℕ) → length a ≡ length b → (same_rows a b ≡ true) ↔ (a ≡ b)
same-equal a b long = (
  (λ e. equal a b long e),
  (λ e. every_pair-from ◌==◌ a b (λ i. eq-eqb _ _ (ap (λ l. get_or l i 0) e))),
)
  where
    equal : (a b : List ℕ) → length a ≡ length b → same_rows a b ≡ true → a ≡ b
    equal [] [] long e = refl
    equal [] (y ∷ ys) long e = absurd (omega arith)
    equal (x ∷ xs) [] long e = absurd (omega arith)
    equal (x ∷ xs) (y ∷ ys) long e =
        ap₂ (λ w l. w ∷ l) (eqb-true x y (and_parts (x == y) (same_rows xs ys) e).0)
        (equal xs ys (omega arith) (and_parts (x == y) _ e).1)

-- rows of one length with the same bits are equal
pub same_from_bits : (a b : List ℕ) → length a ≡ length b
    → ((i k : ℕ) → row_has a i k ≡ row_has b i k) → a ≡ b
same_from_bits [] [] long same = refl
same_from_bits [] (y ∷ ys) long same = absurd (omega arith)
same_from_bits (x ∷ xs) [] long same = absurd (omega arith)
same_from_bits (x ∷ xs) (y ∷ ys) long same =
    ap₂ (λ w l. w ∷ l) (same_from_word_has x y (same 0))
    (same_from_bits xs ys (omega arith) (λ i. same (suc i)))

-- the bits of a row that is made word by word
row_has-zip2 : (f : ℕ → ℕ → ℕ) (g : Bool → Bool → Bool) → g false false ≡ false
    → ((x y k : ℕ) → word_has (f x y) k ≡ g (word_has x k) (word_has y k))
    → (a b : List ℕ) → length a ≡ length b → (i k : ℕ)
    → row_has (zip2 f a b) i k ≡ g (row_has a i k) (row_has b i k)
row_has-zip2 f g none each [] [] long i k =
    word_has_zero k ∙ sym (ap₂ g (word_has_zero k) (word_has_zero k) ∙ none)
row_has-zip2 f g none each [] (y ∷ ys) long i k = absurd (omega arith)
row_has-zip2 f g none each (x ∷ xs) [] long i k = absurd (omega arith)
row_has-zip2 f g none each (x ∷ xs) (y ∷ ys) long zero k = each x y k
row_has-zip2 f g none each (x ∷ xs) (y ∷ ys) long (suc i) k =
    row_has-zip2 f g none each xs ys (omega arith) i k

pub joined-bits : (a b : List ℕ) → length a ≡ length b → HasEither a b (joined a b)
joined-bits = row_has-zip2 bit_or (λ p q. p || q) refl word_has-or

pub common-bits : (a b : List ℕ) → length a ≡ length b → HasBoth a b (common a b)
common-bits = row_has-zip2 bit_and (λ p q. p && q) refl word_has-and

pub remaining-bits : (a b : List ℕ) → length a ≡ length b → HasRest a b (remaining a b)
remaining-bits = row_has-zip2 bits_left (λ p q. p && not q) refl word_has-left

-- `x & !y` over two rows
pub remaining-and_not : (a b : List ℕ) → ((i : ℕ) → get_or a i 0 < 2 ^ 64)
    → ((i : ℕ) → get_or b i 0 < 2 ^ 64)
    → zip2 (λ x y. bit_and x (bit_not w64 y)) a b ≡ remaining a b
remaining-and_not [] ys small_a small_b = refl
remaining-and_not (x ∷ xs) [] small_a small_b = refl
remaining-and_not (x ∷ xs) (y ∷ ys) small_a small_b =
    ap₂ (λ w l. w ∷ l) (and_not x y (small_a 0) (small_b 0))
    (remaining-and_not xs ys (λ i. small_a (suc i)) (λ i. small_b (suc i)))
