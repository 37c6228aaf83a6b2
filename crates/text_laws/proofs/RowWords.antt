-- The variants of a row are those whose bit is set, so their words are the row's.
use Rattle.std.proofs.Common.{◌≡◌, ℕ, zero, suc, ◌+◌, ◌<◌, ◌≤◌, Bool, true, false, ◌&&◌, ◌||◌, List, [], ◌∷◌, ◌++◌, map, length, refl, sym, ap, subst, ◌∙◌, nat_lt, arith, true≢false}
use Rattle.std.specs.List.{flat_map, range_with_len}
use Rattle.std.proofs.lemmas.Bool.{or_left, or_right, ltb-true, ltb-false}
use Rattle.std.proofs.lemmas.List.{get_or_past}
use Rattle.std.proofs.lemmas.List.Elements.{filter-append}
use Rattle.std.proofs.lemmas.List.Folds.{list_any-append}
use Rattle.bit_rows.specs.Sets.{variants_of}
use Rattle.clause_kernel.specs.Rows.{word_has}
use Rattle.clause_kernel.proofs.Words.{word_has_zero}
use Rattle.farm_model.specs.Common.{names, variant, variants, same, contains, Universe}
use Rattle.farm_model.specs.declared.types.Variant.{Variant}
use Rattle.farm_model.proofs.VariantLaws.{same-refl, same-true}
use Rattle.farm_universe.specs.ListText.{variant_words}
use Rattle.cert_text.specs.Certificates.{IsNewRow}
use Rattle.cert_text.specs.Rows.{those_in_row, named_variants, named_in_row, row_variants}
use Rattle.cert_text.proofs.RowsSoFar.{so_far-words}

-- the bit of a variant in a row
abbrev bit_of : List ℕ → Variant → Bool
bit_of row v = variants_of row v.name v.bit

-- of the variants of a row, one is there where it is among them and its bit is set
contains-in_row : (row : List ℕ) (x : Variant) (vs : List Variant)
    → contains (those_in_row row vs) x ≡ (bit_of row x && contains vs x)
contains-in_row row x [] = by (bit_of row x) where
  by : (b : Bool) → false ≡ (b && false)
  by true = refl
  by false = refl
contains-in_row row x (v ∷ vs) =
    by (same v x) (bit_of row v) (bit_of row x) refl refl refl (contains-in_row row x vs)
  where
    by : (s q r : Bool) → same v x ≡ s → bit_of row v ≡ q → bit_of row x ≡ r
        → contains (those_in_row row vs) x ≡ (bit_of row x && contains vs x)
        → contains (those_in_row row (v ∷ vs)) x ≡ (bit_of row x && contains (v ∷ vs) x)
    by true true true es eq er later = rw (eq, es, er) refl
    by true true false es eq er later =
        absurd (true≢false (sym eq ∙ ap (bit_of row) (same-true v x es) ∙ er))
    by true false true es eq er later =
        absurd (true≢false (sym er ∙ ap (bit_of row) (sym (same-true v x es)) ∙ eq))
    by true false false es eq er later = rw (eq, er) (later ∙ rw er refl)
    by false true true es eq er later = rw (eq, es, er) (later ∙ rw er refl)
    by false true false es eq er later = rw (eq, es, er) (later ∙ rw er refl)
    by false false true es eq er later = rw (eq, es, er) (later ∙ rw er refl)
    by false false false es eq er later = rw (eq, es, er) (later ∙ rw er refl)

module _ (u : Universe) (row : List ℕ) where
  row-filtered : (ks : List ℕ)
      → flat_map (named_in_row u row) ks ≡ those_in_row row (flat_map (named_variants u) ks)
  row-filtered [] = refl
  row-filtered (k ∷ ks) =
      ap (λ (vs : List Variant). named_in_row u row k ++ vs) (row-filtered ks)
      ∙ sym (filter-append (bit_of row) (named_variants u k) (flat_map (named_variants u) ks))

-- ---- all variants of the universe

module _ (n b : ℕ) where
  bits-have : (m a : ℕ) → a ≤ b → b < a + m
      → contains (map (variant n) (range_with_len a m)) (variant n b) ≡ true
  bits-have zero a low high = absurd (omega (arith, low, high))
  bits-have (suc m) a low high =
      by (nat_lt a b) refl (λ more. bits-have m (a + 1) more (omega (arith, high)))
    where
      by : (t : Bool) → nat_lt a b ≡ t
          → (a + 1 ≤ b
          → contains (map (variant n) (range_with_len (a + 1) m)) (variant n b) ≡ true)
          → contains (map (variant n) (range_with_len a (suc m))) (variant n b) ≡ true
      by true e later =
          or_right (same (variant n a) (variant n b)) _
          (later (omega (arith, ltb-true a b e)))
      by false e later =
          let here : a ≡ b = omega (arith, ltb-false a b e, low) in
          or_left (same (variant n a) (variant n b)) _
          (subst (λ k. same (variant n k) (variant n b) ≡ true) (sym here)
          (same-refl (variant n b)))

  names-have : (u : Universe) → b < variants u n → (m a : ℕ) → a ≤ n → n < a + m
      → contains (flat_map (named_variants u) (range_with_len a m)) (variant n b) ≡ true
  names-have u few zero a low high = absurd (omega (arith, low, high))
  names-have u few (suc m) a low high =
      list_any-append (λ w. same w (variant n b)) (named_variants u a)
      (flat_map (named_variants u) (range_with_len (a + 1) m))
      ∙ by (nat_lt a n) refl (λ more. names-have u few m (a + 1) more (omega (arith, high)))
    where
      by : (t : Bool) → nat_lt a n ≡ t
          → (a + 1 ≤ n
          → contains (flat_map (named_variants u) (range_with_len (a + 1) m)) (variant n b) ≡ true)
          → (contains (named_variants u a) (variant n b)
          || contains (flat_map (named_variants u) (range_with_len (a + 1) m)) (variant n b))
          ≡ true
      by true e later =
          or_right (contains (named_variants u a) (variant n b)) _
          (later (omega (arith, ltb-true a n e)))
      by false e later =
          let here : n ≡ a = omega (arith, ltb-false a n e, low) in
          or_left (contains (named_variants u a) (variant n b)) _
          (subst (λ k. contains (named_variants u k) (variant n b) ≡ true) here
          (bits-have (variants u n) 0 (omega arith) (omega (arith, few))))

-- ---- the row

module _ (u : Universe) (row : List ℕ) (new : IsNewRow u row) where
  name-there : (n b : ℕ) → variants_of row n b ≡ true → n < names u
  name-there n b is = by (nat_lt n (names u)) refl where
    by : (t : Bool) → nat_lt n (names u) ≡ t → n < names u
    by true e = ltb-true n (names u) e
    by false e =
        let past : length row ≤ n = omega (arith, ltb-false n (names u) e, new.long) in
        absurd (true≢false (sym is ∙ ap (λ word. word_has word b) (get_or_past row n 0 past)
        ∙ word_has_zero b))

  row-bits : (n b : ℕ) → variants_of row n b ≡ contains (row_variants u row) (variant n b)
  row-bits n b =
      sym (ap (λ vs. contains vs (variant n b)) (row-filtered u row (range_with_len 0 (names u)))
      ∙ contains-in_row row (variant n b) (flat_map (named_variants u) (range_with_len 0 (names u)))
      ∙ by (variants_of row n b) refl)
    where
      by : (t : Bool) → variants_of row n b ≡ t
          → (variants_of row n b
          && contains (flat_map (named_variants u) (range_with_len 0 (names u))) (variant n b))
          ≡ variants_of row n b
      by true e =
          rw e (names-have n b u (new.known n b e) (names u) 0 (omega arith)
          (omega (arith, name-there n b e)))
      by false e = rw e refl

  pub row-words : variant_words (names u) (row_variants u row) ≡ row
  row-words =
      sym (so_far-words (names u) row (row_variants u row)
      (record { long = new.long; bits = row-bits }))
