-- The variants of a row, name by name and bit by bit.
use Rattle.std.proofs.Common.{◌≡◌, ◌<◌, All, subst, ℕ, zero, suc, ◌+◌, true, false, List, [], ◌∷◌, ◌++◌, map, cond, refl, sym, ap, ◌∙◌, add-zero, zero-add, add-one, arith}
use Rattle.std.specs.List.{flat_map, range_with_len}
use Rattle.std.proofs.lemmas.Grind.{flat_map-append}
use Rattle.std.proofs.lemmas.List.{append-nil}
use Rattle.std.proofs.lemmas.List.Elements.{All-nil, All-head, All-tail, All-append, All-map, All-filter, All-from_get_or}
use Rattle.std.proofs.lemmas.List.FromFn.{length-range_with_len, get_or-range_with_len, filter_of_map_range_with_len_more}
use Rattle.bit_rows.specs.Sets.{variants_of, IsWordOf}
use Rattle.clause_kernel.proofs.Words.{word_has_zero}
use Rattle.farm_model.specs.Common.{names, variant, variants, Universe}
use Rattle.farm_model.specs.declared.types.Variant.{Variant}
use Rattle.cert_text.specs.Rows.{IsOfUniverse, those_in_row, named_variants, named_in_row, row_variants}

-- the variants of a name below this bit
abbrev pub named_below : ℕ → ℕ → List Variant
named_below n b = map (variant n) (range_with_len 0 b)

module _ (row : List ℕ) (n b : ℕ) where
  more : those_in_row row (named_below n (b + 1))
      ≡ those_in_row row (named_below n b) ++ cond (variants_of row n b) (variant n b ∷ []) []
  more =
      filter_of_map_range_with_len_more (λ v. variants_of row v.name v.bit) (variant n) 0 b b
      (omega arith)

  pub in_row-has : variants_of row n b ≡ true
      → those_in_row row (named_below n (b + 1))
      ≡ those_in_row row (named_below n b) ++ variant n b ∷ []
  in_row-has is = more ∙ rw is refl

  pub in_row-lacks : variants_of row n b ≡ false
      → those_in_row row (named_below n (b + 1)) ≡ those_in_row row (named_below n b)
  in_row-lacks is = more ∙ rw is (append-nil (those_in_row row (named_below n b)))

-- a name whose word is 0 has no variants
none-in : (row ks : List ℕ) (n : ℕ) → ((b : ℕ) → variants_of row n b ≡ false)
    → those_in_row row (map (variant n) ks) ≡ []
none-in row [] n none = refl
none-in row (k ∷ ks) n none = rw (none k) (none-in row ks n none)

pub in_row-none : (row : List ℕ) (n count : ℕ) → IsWordOf (variants_of row) n 0
    → those_in_row row (named_below n count) ≡ []
in_row-none row n count is =
    none-in row (range_with_len 0 count) n (λ b. is b ∙ word_has_zero b)

pub range-more : (n a j : ℕ) → a + n ≡ j → range_with_len a (suc n) ≡ range_with_len a n ++ j ∷ []
range-more zero a j e = ap (λ k. k ∷ []) (sym (add-zero a) ∙ e)
range-more (suc n) a j e = ap (λ ks. a ∷ ks) (range-more n (a + 1) j (omega (arith, e)))

-- one name more
pub names-more : (f : ℕ → List Variant) (n : ℕ)
    → flat_map f (range_with_len 0 (n + 1)) ≡ flat_map f (range_with_len 0 n) ++ f n
names-more f n =
    ap (λ k. flat_map f (range_with_len 0 k)) (add-one n)
    ∙ ap (flat_map f) (range-more n 0 n (omega arith))
    ∙ flat_map-append f (range_with_len 0 n) (n ∷ [])
    ∙ ap (λ vs. flat_map f (range_with_len 0 n) ++ vs) (append-nil (f n))

-- ---- they are of the universe

All-range : (P : ℕ → Type 0) (n : ℕ) → ((k : ℕ) → k < n → P k) → All P (range_with_len 0 n)
All-range P n each =
    All-from_get_or P (range_with_len 0 n) 0
    (λ i lt. let within : i < n = omega (arith, lt, length-range_with_len 0 n) in
    subst P (sym (get_or-range_with_len 0 n i 0 within ∙ zero-add i)) (each i within))

All-flat_map : {X Y : Type 0} (P : Y → Type 0) (f : X → List Y) (xs : List X)
    → All (λ x. All P (f x)) xs → All P (flat_map f xs)
All-flat_map P f [] all = All-nil P
All-flat_map P f (x ∷ xs) all =
    All-append P (f x) (flat_map f xs) (All-head (λ x. All P (f x)) x xs all)
    (All-flat_map P f xs (All-tail (λ x. All P (f x)) x xs all))

module _ (u : Universe) (row : List ℕ) where
  named-in : (n : ℕ) → n < names u → All (IsOfUniverse u) (named_in_row u row n)
  named-in n lt =
      All-filter (λ v. variants_of row v.name v.bit) (IsOfUniverse u) (named_variants u n)
      (All-map (IsOfUniverse u) (variant n) (range_with_len 0 (variants u n))
      (All-range (λ b. IsOfUniverse u (variant n b)) (variants u n)
      (λ b few. record { name = lt; known = few })))

  pub row_variants-in : All (IsOfUniverse u) (row_variants u row)
  row_variants-in =
      All-flat_map (IsOfUniverse u) (named_in_row u row) (range_with_len 0 (names u))
      (All-range (λ n. All (IsOfUniverse u) (named_in_row u row n)) (names u) named-in)
