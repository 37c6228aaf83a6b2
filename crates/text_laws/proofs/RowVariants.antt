-- The variants of a row stand in order.
use Rattle.std.proofs.Common.{◌≡◌, ℕ, zero, suc, ◌+◌, ◌<◌, ◌≤◌, Bool, true, false, ◌&&◌, ◌||◌, ◌==◌, List, [], ◌∷◌, ◌++◌, map, refl, Option, Some, None, nat_lt, arith, eq-eqb}
use Rattle.std.specs.List.{flat_map, range_with_len}
use Rattle.std.proofs.lemmas.Bool.{lt-ltb}
use Rattle.bit_rows.specs.Sets.{variants_of}
use Rattle.farm_model.specs.Common.{names, variant, variants, Universe}
use Rattle.farm_model.specs.declared.types.Variant.{Variant}
use Rattle.cert_text.specs.Certificates.{IsNewRow}
use Rattle.cert_text.specs.Rows.{IsOfUniverse, those_in_row, named_in_row, is_behind, comes_behind, row_variants, variants_behind}
use Rattle.text_laws.specs.CertLaws.{IsSpelled}
use Rattle.text_laws.proofs.Lists.{entry_of}
use Rattle.text_laws.proofs.Variants.{item-variant}

-- each may come behind the one before it
abbrev pub AreOrdered : Universe → Option Variant → List Variant → Type 0
AreOrdered u last [] = Unit {0}
AreOrdered u last (v ∷ vs) = (comes_behind u last v ≡ true) × IsOfUniverse u v
    × AreOrdered u (Some v) vs

-- the last one stands ahead of a name's bits from this one on; of names from this one on
abbrev IsAheadOf : Option Variant → ℕ → ℕ → Type 0
IsAheadOf last n b = (k : ℕ) → b ≤ k → is_behind last (variant n k) ≡ true

abbrev IsAheadOfNames : Option Variant → ℕ → Type 0
IsAheadOfNames last n = (m k : ℕ) → n ≤ m → is_behind last (variant m k) ≡ true

ahead-bits : (n b : ℕ) → IsAheadOf (Some (variant n b)) n (b + 1)
ahead-bits n b k le = by (nat_lt n n) where
  by : (t : Bool) → (t || ((n == n) && nat_lt b k)) ≡ true
  by true = refl
  by false = rw (eq-eqb n n refl, lt-ltb b k (omega (arith, le))) refl

ahead-names : (n b : ℕ) → IsAheadOfNames (Some (variant n b)) (n + 1)
ahead-names n b m k le = rw (lt-ltb n m (omega (arith, le))) refl

module _ (u : Universe) (row : List ℕ) (new : IsNewRow u row) where
  module _ (n : ℕ) (named : n < names u) (rest : List Variant)
      (next : (last : Option Variant) → IsAheadOfNames last (n + 1) → AreOrdered u last rest) where
    bits-ordered : (m b : ℕ) (last : Option Variant) → b + m ≤ variants u n → IsAheadOf last n b
        → IsAheadOfNames last (n + 1)
        → AreOrdered u last (those_in_row row (map (variant n) (range_with_len b m)) ++ rest)
    bits-ordered zero b last few ahead names = next last names
    bits-ordered (suc m) b last few ahead names =
        by (variants_of row n b) refl
        (bits-ordered m (b + 1) last (omega (arith, few)) (λ k le. ahead k (omega (arith, le)))
        names)
        (bits-ordered m (b + 1) (Some (variant n b)) (omega (arith, few)) (ahead-bits n b)
        (ahead-names n b))
      where
        by : (t : Bool) → variants_of row n b ≡ t
            → AreOrdered u last (those_in_row row (map (variant n) (range_with_len (b + 1) m))
            ++ rest)
            → AreOrdered u (Some (variant n b))
            (those_in_row row (map (variant n) (range_with_len (b + 1) m)) ++ rest)
            → AreOrdered u last (those_in_row row (map (variant n) (range_with_len b (suc m)))
            ++ rest)
        by true is without behind =
            rw is (
              rw (ahead b (omega arith), new.new n b is) refl,
              record { name = named; known = omega (arith, few) },
              behind,
            )
        by false is without behind = rw is without

  names-ordered : (m n : ℕ) (last : Option Variant) → n + m ≤ names u → IsAheadOfNames last n
      → AreOrdered u last (flat_map (named_in_row u row) (range_with_len n m))
  names-ordered zero n last few ahead = tt
  names-ordered (suc m) n last few ahead =
      bits-ordered n (omega (arith, few))
      (flat_map (named_in_row u row) (range_with_len (n + 1) m))
      (λ other behind. names-ordered m (n + 1) other (omega (arith, few)) behind)
      (variants u n) 0 last (omega arith) (λ k le. ahead n k (omega arith))
      (λ j k le. ahead j k (omega (arith, le)))

  pub row-ordered : AreOrdered u None (row_variants u row)
  row-ordered = names-ordered (names u) 0 None (omega arith) (λ m k le. refl)

-- variants in order are read again from their items
module _ (u : Universe) (spelled : IsSpelled u) where
  pub behind-again : (vs : List Variant) (last : Option Variant) → AreOrdered u last vs
      → variants_behind u last (map (entry_of u) vs) ≡ Some vs
  behind-again [] last are = refl
  behind-again (v ∷ vs) last are =
      rw (item-variant u spelled v are.1, are.0, behind-again vs (Some v) are.2) refl
