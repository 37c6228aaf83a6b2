-- The row of a test has the variants that pass it.
use Rattle.std.proofs.Common.{◌≡◌, inl, inr, ℕ, zero, suc, ◌+◌, ◌<◌, ◌≤◌, Bool, true, false, ◌&&◌, ◌||◌, ◌==◌, nat_lt, List, [], ◌∷◌, map, filter, cond, get_or, length, refl, sym, ap, ◌∙◌, eq-eqb, arith}
use Rattle.std.specs.Cmp.{both_ways as same_tests}
use Rattle.std.specs.List.{list_any, range_with_len}
use Rattle.std.proofs.Math.Bool.{or-false}
use Rattle.std.proofs.lemmas.Bool.{cases_eq, cases_lt, and_parts, lt-ltb, le-ltb, ltb-true, ne_eqb}
use Rattle.std.proofs.lemmas.List.{get_or_past}
use Rattle.std.proofs.lemmas.List.Folds.{list_any-append}
use Rattle.std.proofs.lemmas.List.FromFn.{length-map-range_with_len, get_or-map-range_with_len, filter_of_map_range_with_len_more}
use Rattle.bit_rows.specs.Sets.{variants_of}
use Rattle.clause_kernel.proofs.Words.{word_has_zero}
use Rattle.clause_kernel.specs.Rows.{word_has}
use Rattle.farm_model.specs.Common.{names, variant, variants, Universe}
use Rattle.farm_model.specs.declared.types.Variant.{Variant}
use Rattle.farm_universe.proofs.ArchiveLaws.{bit_at-word_of}
use Rattle.farm_universe.proofs.PlaceLaws.{named}
use Rattle.sat_rows.specs.Rows.{variant_passes, IsRowOf}
use Rattle.cert_writer.specs.NewRows.{word_of_test, row_of_test}

-- one of them has this name and this bit
abbrev has : ℕ → ℕ → List Variant → Bool
has n b vs = list_any (λ v. v.name == n && v.bit == b) vs

-- the variants of a name below a bit that pass
abbrev passing : (Variant → Bool) → ℕ → ℕ → List Variant
passing test n k = filter test (map (variant n) (range_with_len 0 k))

module _ (test : Variant → Bool) (n b : ℕ) where
  -- the next one
  has-last : (k : ℕ) → (b ≡ k → ⊥) → has n b (cond (test (variant n k)) (variant n k ∷ []) [])
      ≡ false
  has-last k other = by (test (variant n k)) where
    by : (t : Bool) → has n b (cond t (variant n k ∷ []) []) ≡ false
    by true = rw (eq-eqb n n refl, ne_eqb k b (λ e. other (sym e))) refl
    by false = refl

  has-this : (k : ℕ) → b ≡ k
      → has n b (cond (test (variant n k)) (variant n k ∷ []) []) ≡ test (variant n b)
  has-this k here = by (test (variant n k)) (ap (λ m. test (variant n m)) (sym here)) where
    by : (t : Bool) → t ≡ test (variant n b)
        → has n b (cond t (variant n k ∷ []) []) ≡ test (variant n b)
    by true is = rw (eq-eqb n n refl, eq-eqb k b (sym here)) is
    by false is = is

  has-passing : (k : ℕ) → has n b (passing test n k) ≡ (nat_lt b k && test (variant n b))
  has-passing zero = rw (le-ltb b 0 (omega arith)) refl
  has-passing (suc k) =
      ap (λ m. has n b (passing test n m)) next
      ∙ ap (has n b) (filter_of_map_range_with_len_more test (variant n) 0 k k (omega arith))
      ∙ list_any-append (λ v. v.name == n && v.bit == b) (passing test n k) _
      ∙ ap (λ t. t || has n b (cond (test (variant n k)) (variant n k ∷ []) [])) (has-passing k)
      ∙ elim (cases_eq b k) [
        | inl here ↦
            rw (le-ltb b k (omega (arith, here)), lt-ltb b (suc k) (omega (arith, here)))
            (has-this k here)
        | inr other ↦
            ap (λ t. (nat_lt b k && test (variant n b)) || t) (has-last k other)
            ∙ or-false _
            ∙ ap (λ t. t && test (variant n b)) (below k other)
      ]
    where
      next : suc k ≡ k + 1
      next = omega arith

      below : (k : ℕ) → (b ≡ k → ⊥) → nat_lt b k ≡ nat_lt b (suc k)
      below k other = elim (cases_lt b k) [
        | inl lt ↦ lt-ltb b k lt ∙ sym (lt-ltb b (suc k) (omega (arith, lt)))
        | inr past ↦ le-ltb b k past ∙ sym (le-ltb b (suc k) (omega (arith, past, other)))
      ]

module _ (u : Universe) (test : Variant → Bool) where
  length-row : length (row_of_test u test) ≡ names u
  unfolding row_of_test
  length-row = length-map-range_with_len (word_of_test u test) 0 (names u)

  word-at : (n : ℕ) → n < names u → get_or (row_of_test u test) n 0 ≡ word_of_test u test n
  unfolding row_of_test
  word-at n lt = get_or-map-range_with_len (word_of_test u test) 0 (names u) n n 0 lt (omega arith)

  bits-at : (n b : ℕ) → n < names u → variants_of (row_of_test u test) n b
      ≡ variant_passes u test n b
  bits-at n b lt =
      ap (λ word. word_has word b) (word-at n lt)
      ∙ bit_at-word_of (passing test n (variants u n)) n b
      ∙ has-passing test n b (variants u n)

  bits-past : (n b : ℕ) → names u ≤ n → variants_of (row_of_test u test) n b
      ≡ variant_passes u test n b
  bits-past n b past =
      ap (λ word. word_has word b)
      (get_or_past (row_of_test u test) n 0 (omega (arith, past, length-row)))
      ∙ word_has_zero b
      ∙ same_tests false (variant_passes u test n b) (λ e. absurd cc)
      (λ e. let few = ltb-true b (variants u n)
      (and_parts (nat_lt b (variants u n)) (test (variant n b)) e).0 in
      absurd (omega (arith, past, named u n b few)))

  pub test-row : IsRowOf u test (row_of_test u test)
  test-row = record {
    long = length-row;
    set = λ n b. elim (cases_lt n (names u)) [
      | inl lt ↦ bits-at n b lt
      | inr past ↦ bits-past n b past
    ];
  }
