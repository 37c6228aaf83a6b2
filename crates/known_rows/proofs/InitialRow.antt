-- The initial archive as a row.
use Rattle.std.proofs.Common.{◌≡◌, inl, inr, ℕ, ◌+◌, ◌<◌, List, true, slice_index, refl, sym, ap, ◌∙◌, arith}
use Rattle.std.specs.Cmp.{both_ways as same_tests}
use Rattle.std.proofs.lemmas.Bool.{cases_eq, and_parts, and_from, lt-ltb, eq-eqb, ne_eqb}
use Rattle.bit_rows.specs.Sets.{variants_of, ReplacesName}
use Rattle.clause_kernel.specs.Rows.{word_has}
use Rattle.farm_model.specs.Common.{Universe, variant, variants, initial, has_bit, IsUniverse}
use Rattle.sat_rows.specs.Rows.{variant_passes}

initial-bit : (u : Universe) (n b : ℕ)
    → initial u (variant n b) ≡ word_has (slice_index u.initial n) b
unfolding initial has_bit
initial-bit u n b = refl

-- the bits of a word of the initial archive are its variants
pub initial_word : (u : Universe) (n b : ℕ) → IsUniverse u
    → word_has (slice_index u.initial n) b ≡ variant_passes u (initial u) n b
initial_word u n b sound =
    same_tests _ _
    (λ h.
    let there : initial u (variant n b) ≡ true = initial-bit u n b ∙ h in
    and_from _ _ (lt-ltb b (variants u n) (sound.initial_known (variant n b) there)) there)
    (λ h. sym (initial-bit u n b) ∙ (and_parts _ _ h).1)

-- one more name
pub initial_more : (u : Universe) (row next : List ℕ) (i word : ℕ) → IsUniverse u
    → word ≡ slice_index u.initial i → ReplacesName (variants_of row) i word (variants_of next)
    → ((n b : ℕ) → n < i → variants_of row n b ≡ variant_passes u (initial u) n b)
    → (n b : ℕ) → n < i + 1 → variants_of next n b ≡ variant_passes u (initial u) n b
initial_more u row next i word sound is replaced old n b lt =
    elim (cases_eq n i) [
      | inl here ↦
          replaced n b ∙ (rw (eq-eqb n i here) refl)
          ∙ ap (λ w. word_has w b) (is ∙ ap (slice_index u.initial) (sym here))
          ∙ initial_word u n b sound
      | inr other ↦
          replaced n b ∙ (rw (ne_eqb n i other) refl) ∙ old n b (omega (arith, lt, other))
    ]
