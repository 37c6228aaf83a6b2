-- The candidates of an unpack as a word.
use Rattle.std.proofs.Common.{◌≡◌, ◌≢◌, inl, inr, ℕ, ◌*◌, ◌-◌, ◌%◌, ◌^◌, ◌<◌, ◌≤◌, Bool, true, not, ◌&&◌, ◌==◌, nat_lt, List, Option, Some, None, bit_and, bit_xor, refl, sym, ap, ◌∙◌, arith}
use Rattle.std.specs.Cmp.{both_ways as same_tests}
use Rattle.std.specs.Prelude.{nat_le}
use Rattle.std.proofs.lemmas.Nat.{pow_pos}
use Rattle.std.proofs.lemmas.Nat.Bits.{bit_at_ones, bit_at_ones_above}
use Rattle.std.proofs.lemmas.Bool.{both_ways, cases_lt, cases_Bool, and_from, and_parts, lt-ltb, ltb-true, leb-true, le-leb, eq-eqb}
use Rattle.clause_kernel.specs.Rows.{word_has}
use Rattle.clause_kernel.specs.Kernels.{bits_left}
use Rattle.clause_kernel.proofs.Words.{word_has_zero, word_has-and, word_has-left}
use Rattle.bit_rows.proofs.OneName.{bit_word}
use Rattle.bit_rows.specs.Newest.{IsCommonBit, IsNewest}
use Rattle.deb_relation.specs.declared.operator.Op.{Op}
use Rattle.farm_model.specs.Common.{highest_below, Universe, variant, variants, is_wanted}
use Rattle.farm_model.specs.declared.types.Variant.{Variant}
use Rattle.farm_model.proofs.BelowLaws.{highest_below-some, highest_below-there}
use Rattle.plan_model.specs.Common.{newest, candidates}
use Rattle.sat_rows.specs.Rows.{IsWordFor}
use Rattle.may_rows.specs.Picks.{AreOfArchive, IsPick}

-- ---- the bits from one up

pub one_within : (bit : ℕ) → bit < 64 → 1 ≤ 1 * 2 ^ bit % 2 ^ 64
one_within bit within = omega (arith, bit_word bit within, pow_pos bit)

low_bits : (bit b : ℕ) → not (word_has (2 ^ bit - 1) b) ≡ nat_le bit b
low_bits bit b =
    elim (cases_lt b bit) [
      | inl lt ↦
          ap not (eq-eqb _ 1 (bit_at_ones bit b lt))
          ∙ sym (elim (cases_Bool (nat_le bit b)) [
            | inl le ↦ let past = leb-true bit b le in absurd (omega (arith, past))
            | inr not_le ↦ not_le
          ])
      | inr past ↦ ap (λ n. not (n == 1)) (bit_at_ones_above bit b past) ∙ sym (le-leb bit b past)
    ]

pub bits_from : (word bit : ℕ) → bit < 64 → (b : ℕ)
    → word_has (bit_xor word (bit_and word (1 * 2 ^ bit % 2 ^ 64 - 1))) b
    ≡ (word_has word b && nat_le bit b)
bits_from word bit within b =
    ap (λ n. word_has (bits_left word (n - 1)) b) (bit_word bit within)
    ∙ word_has-left word (2 ^ bit - 1) b
    ∙ ap (λ t. word_has word b && t) (low_bits bit b)

-- ---- the candidates

module _ (u : Universe) (known there : Variant → Bool) (name : ℕ) (wanted : Option (Op × List ℕ))
    (of : AreOfArchive u known there) (known_word there_word mask : ℕ)
    (is_known : IsWordFor u known name known_word) (is_there : IsWordFor u there name there_word)
    (is_mask : IsWordFor u (is_wanted u wanted) name mask) where
  abbrev wanted_known : ℕ → Bool
  wanted_known b = known (variant name b) && is_wanted u wanted (variant name b)

  common-from : (b : ℕ) → IsCommonBit known_word mask b
      → (b < variants u name) × (wanted_known b ≡ true)
  common-from b common =
      let one = and_parts _ _ (sym (is_known b) ∙ common.0) in
      let two = and_parts _ _ (sym (is_mask b) ∙ common.1) in
      (ltb-true b (variants u name) one.0, and_from _ _ one.1 two.1)

  common-to : (b : ℕ) → b < variants u name → wanted_known b ≡ true → IsCommonBit known_word mask b
  common-to b lt passes =
      let parts = and_parts _ _ passes in (
        is_known b ∙ and_from _ _ (lt-ltb b (variants u name) lt) parts.0,
        is_mask b ∙ and_from _ _ (lt-ltb b (variants u name) lt) parts.1,
      )

  none-newest : ((b : ℕ) → IsCommonBit known_word mask b → ⊥) → newest u known name wanted ≡ None
  unfolding newest
  none-newest none = go (highest_below (variants u name) wanted_known) refl
    where
      go : (o : Option ℕ) → highest_below (variants u name) wanted_known ≡ o
          → highest_below (variants u name) wanted_known ≡ None
      go None is = is
      go (Some h) is =
          let top = highest_below-some (variants u name) wanted_known h is in
          absurd (none h (common-to h top.below top.passes))

  some-newest : (h : ℕ) → IsNewest known_word mask h → newest u known name wanted ≡ Some h
  unfolding newest
  some-newest h is =
      let here = common-from h is.is_common in
      let there_is = highest_below-there (variants u name) wanted_known h here.0 here.1 in
      let top = highest_below-some (variants u name) wanted_known there_is.0 there_is.1 in
      let low = top.highest h here.0 here.1 in
      let high = is.is_highest there_is.0 (common-to there_is.0 top.below top.passes) in
      there_is.1 ∙ ap Some (omega (arith, low, high))

  candidate : (h word : ℕ)
      → ((b : ℕ) → word_has word b ≡ (word_has (bit_and there_word mask) b && nat_le h b))
      → (b : ℕ) → word_has word b ≡ candidates u there name wanted h b
  unfolding candidates
  candidate h word is b =
      is b
      ∙ ap (λ t. t && nat_le h b)
      (word_has-and there_word mask b
      ∙ same_tests _ _
      (λ both. let parts = and_parts _ _ both in
      and_from (there (variant name b)) (is_wanted u wanted (variant name b))
      (and_parts (nat_lt b (variants u name)) _ (sym (is_there b) ∙ parts.0)).1
      (and_parts (nat_lt b (variants u name)) _ (sym (is_mask b) ∙ parts.1)).1)
      (λ both. let parts = and_parts _ _ both in
      let lt = lt-ltb b (variants u name) (of.there_known (variant name b) parts.0) in
      and_from _ _ (is_there b ∙ and_from _ _ lt parts.0)
      (is_mask b ∙ and_from _ _ lt parts.1)))

  pub pick-none : ((b : ℕ) → IsCommonBit known_word mask b → ⊥)
      → IsPick u known there name wanted None
  pick-none none = none-newest none

  pub pick-some : (h word : ℕ) → IsNewest known_word mask h
      → ((b : ℕ) → word_has word b ≡ (word_has (bit_and there_word mask) b && nat_le h b))
      → IsPick u known there name wanted (Some word)
  pick-some h word is bits =
      let here = common-from h is.is_common in
      let parts = and_parts _ _ here.1 in
      let lt = lt-ltb h (variants u name) here.0 in (
        h,
        some-newest h is,
        (λ i. λ b. candidate h word bits b i),
        bits h ∙ and_from _ _
            (word_has-and there_word mask h
            ∙ and_from _ _
            (is_there h ∙ and_from _ _ lt (of.known_there (variant name h) parts.0))
            (is_mask h ∙ and_from _ _ lt parts.1))
            (le-leb h h (omega arith)),
      )

-- ---- the word by itself

module _ (u : Universe) (p : Variant → Bool) (name known_word there_word mask h word : ℕ)
    (is_mask : IsWordFor u p name mask)
    (bits : (b : ℕ) → word_has word b ≡ (word_has (bit_and there_word mask) b && nat_le h b)) where
  pub pick-known : (b : ℕ) → word_has word b ≡ true → b < variants u name
  pick-known b has =
      let parts = and_parts (word_has (bit_and there_word mask) b) (nat_le h b)
      (sym (bits b) ∙ has) in
      let both =
      and_parts (word_has there_word b) (word_has mask b)
      (sym (word_has-and there_word mask b) ∙ parts.0) in
      ltb-true b (variants u name) (and_parts _ _ (sym (is_mask b) ∙ both.1)).0

  pub pick-nonzero : ((b : ℕ) → word_has known_word b ≡ true → word_has there_word b ≡ true)
      → IsNewest known_word mask h → word ≢ 0
  pick-nonzero more is none =
      both_ways _ (ap (λ k. word_has k h) none ∙ word_has_zero h)
      (bits h ∙ and_from _ _
      (word_has-and there_word mask h ∙ and_from _ _ (more h is.is_common.0) is.is_common.1)
      (le-leb h h (omega arith)))
