-- Tests of a may map as tests of rows.
--
-- Parameters: u a universe, w the words of a may map, n a name, p a test of variants.
use Rattle.std.proofs.Common.{◌≡◌, ◌↔◌, ◌⊎◌, inl, inr, ℕ, ◌<◌, Bool, true, false, not, ◌&&◌, ◌||◌, ◌==◌, nat_lt, List, length, slice_index, bit_or, refl, sym, ap, ◌∙◌, arith}
use Rattle.std.specs.Cmp.{both_ways as same_tests}
use Rattle.std.proofs.lemmas.Bool.{cases_lt, cases_Bool, and_from, and_parts, or_cases, or_left, or_right, not-true, not_from_false, both_ways, eq-eqb, eqb-true, ne_eqb, lt-ltb, ltb-true}
use Rattle.std.proofs.lemmas.List.{get_or_past}
use Rattle.clause_kernel.specs.Rows.{word_has}
use Rattle.clause_kernel.proofs.Words.{word_has_zero, word_has-or, some_bit}
use Rattle.bit_rows.specs.Sets.{variants_of, HaveCommon, HasNameInside}
use Rattle.deb_relation.specs.Relations.{Entry}
use Rattle.farm_model.specs.Common.{some_below, Universe, variant, names, variants, satisfies_entry}
use Rattle.farm_model.specs.declared.types.Variant.{Variant}
use Rattle.farm_model.proofs.BelowLaws.{some_below-at, some_below-found, some_below-same, some_below-none, every_below-at, every_below-all}
use Rattle.plan_model.specs.May.{Bits, all_of, some_of, some_name, may_hold, may_hold_configured, surely_configured, surely_met}
use Rattle.sat_rows.specs.Rows.{variant_passes, IsRowOf}
use Rattle.may_rows.specs.Words.{Words, slot_of, may_of, AreOfName, AreWords, some_name_inside}

-- ---- words of one name

-- no variant of an empty word passes
pub some_of-zero : (u : Universe) (n word : ℕ) (p : Bits) → word ≡ 0
    → some_of u n (word_has word) p ≡ false
some_of-zero u n word p zero =
    some_below-none (variants u n) (λ b. word_has word b && p b)
    (λ b lt. ap (λ h. h && p b) (ap (λ k. word_has k b) zero ∙ word_has_zero b))

-- the name of a bit is in the universe
pub bit_named : (u : Universe) (words : List ℕ) → length words ≡ names u → (n b : ℕ)
    → word_has (slice_index words n) b ≡ true → n < names u
bit_named u words long n b has =
    elim (cases_lt n (names u)) [
      | inl lt ↦ lt
      | inr past ↦ absurd (both_ways _
          (ap (λ k. word_has k b) (get_or_past words n 0 (omega (arith, long))) ∙ word_has_zero b)
          has)
    ]

-- ---- a list of words, and the variants that pass

module _ (u : Universe) (words : List ℕ) (p : Variant → Bool) (long : length words ≡ names u) where
  abbrev may_pass : ℕ → Bool
  may_pass n = some_of u n (word_has (slice_index words n)) (λ b. p (variant n b))

  pub hit-from : HaveCommon (variants_of words) (variant_passes u p)
      → some_below (names u) may_pass ≡ true
  hit-from common =
      let n = common.0 in
      let b = common.1 in
      let both = and_parts _ _ common.3 in
      some_below-at (names u) may_pass n (bit_named u words long n b common.2)
      (some_below-at (variants u n) (λ k. word_has (slice_index words n) k && p (variant n k)) b
      (ltb-true b (variants u n) both.0) (and_from _ _ common.2 both.1))

  pub hit-to : some_below (names u) may_pass ≡ true
      → HaveCommon (variants_of words) (variant_passes u p)
  hit-to some =
      let f = some_below-found (names u) may_pass some in
      let g =
      some_below-found (variants u f.0)
      (λ k. word_has (slice_index words f.0) k && p (variant f.0 k)) f.2 in
      let parts = and_parts _ _ g.2 in
      (f.0, g.0, parts.0, and_from _ _ (lt-ltb g.0 (variants u f.0) g.1) parts.1)

  abbrev surely_passes : ℕ → Bool
  surely_passes n =
      not (slice_index words n == 0)
      && all_of u n (word_has (slice_index words n)) (λ b. p (variant n b))

  pub inside-from : HasNameInside (variants_of words) (variant_passes u p)
      → some_below (names u) surely_passes ≡ true
  inside-from inside =
      let n = inside.0 in
      let b = inside.1.0 in
      some_below-at (names u) surely_passes n (bit_named u words long n b inside.1.1)
      (and_from _ _
      (not_from_false _ (ne_eqb (slice_index words n) 0
      (λ z. both_ways _ (ap (λ k. word_has k b) z ∙ word_has_zero b) inside.1.1)))
      (every_below-all (variants u n)
      (λ k. not (word_has (slice_index words n) k) || p (variant n k))
      (λ k lt. each k (cases_Bool (word_has (slice_index words n) k)))))
    where
      each : (k : ℕ)
          → (word_has (slice_index words inside.0) k ≡ true)
          ⊎ (word_has (slice_index words inside.0) k ≡ false)
          → (not (word_has (slice_index words inside.0) k) || p (variant inside.0 k)) ≡ true
      each k (inl has) = or_right _ _
          (and_parts (nat_lt k (variants u inside.0)) (p (variant inside.0 k)) (inside.2 k has)).1
      each k (inr no_bit) = or_left _ _ (ap not no_bit)

  pub inside-to : ((n b : ℕ) → word_has (slice_index words n) b ≡ true → b < variants u n)
      → some_below (names u) surely_passes ≡ true
      → HasNameInside (variants_of words) (variant_passes u p)
  inside-to known some =
      let f = some_below-found (names u) surely_passes some in
      let parts = and_parts _ _ f.2 in
      let bit =
      some_bit (slice_index words f.0)
      (λ z. both_ways _ (not-true _ parts.0) (eq-eqb (slice_index words f.0) 0 z)) in
      (f.0, (bit.0, bit.1), λ b has. each f.0 b has parts.1)
    where
      each : (n b : ℕ) → word_has (slice_index words n) b ≡ true
          → all_of u n (word_has (slice_index words n)) (λ k. p (variant n k)) ≡ true
          → variant_passes u p n b ≡ true
      each n b has all =
          let lt = known n b has in
          let one =
          every_below-at (variants u n)
          (λ k. not (word_has (slice_index words n) k) || p (variant n k)) b lt all in
          and_from _ _ (lt-ltb b (variants u n) lt) (elim (or_cases _ _ one) [
            | inl out ↦ absurd (both_ways _ (not-true _ out) has)
            | inr passing ↦ passing
          ])

-- ---- a list of words and a row

module _ (u : Universe) (words : List ℕ) (p : Variant → Bool) (row : List ℕ)
    (long : length words ≡ names u) (is : IsRowOf u p row) where
  -- the row has those that pass
  pub hit_row : (t : Bool) → (t ≡ true) ↔ HaveCommon (variants_of words) (variants_of row)
      → (t ≡ true) ↔ HaveCommon (variants_of words) (variant_passes u p)
  hit_row t told = (
    λ yes.
        let common = told.0 yes in
        (common.0, common.1, common.2, sym (is.set common.0 common.1) ∙ common.3),
    λ common. told.1
        (common.0, common.1, common.2, is.set common.0 common.1 ∙ common.3),
  )

  pub inside_is : ((n b : ℕ) → word_has (slice_index words n) b ≡ true → b < variants u n)
      → (t : Bool) → (t ≡ true) ↔ HasNameInside (variants_of words) (variants_of row)
      → t ≡ some_name_inside u words p
  inside_is known t told =
      same_tests t _
      (λ is_so. let inside = told.0 is_so in
      inside-from u words p long
      (inside.0, inside.1, λ b has. sym (is.set inside.0 b) ∙ inside.2 b has))
      (λ is_so. let inside = inside-to u words p long known is_so in
      told.1 (inside.0, inside.1, λ b has. is.set inside.0 b ∙ inside.2 b has))

-- ---- slots

module _ (u : Universe) (n : ℕ) (p : Bits) (here ready last both : ℕ)
    (is : AreOfName (variants u n) here ready last both) where
  pub hold-is : may_hold u n p (slot_of here ready last) ≡ some_of u n (word_has here) p
  hold-is = by (cases_Bool (here == 0)) (cases_Bool (ready == 0))
    where
      by : ((here == 0) ≡ true) ⊎ ((here == 0) ≡ false)
          → ((ready == 0) ≡ true) ⊎ ((ready == 0) ≡ false)
          → may_hold u n p (slot_of here ready last) ≡ some_of u n (word_has here) p
      by (inl z) r = rw z (sym (some_of-zero u n here p (eqb-true here 0 z)))
      by (inr h) (inl z) = rw (h, z) refl
      by (inr h) (inr r) = rw (h, r) refl

  pub configured-is : may_hold_configured u n p (slot_of here ready last)
      ≡ some_of u n (word_has ready) p
  configured-is = by (cases_Bool (here == 0)) (cases_Bool (ready == 0)) is.phase
    where
      by : ((here == 0) ≡ true) ⊎ ((here == 0) ≡ false)
          → ((ready == 0) ≡ true) ⊎ ((ready == 0) ≡ false)
          → (ready ≡ 0) ⊎ ((ready ≡ here) × (last ≡ here))
          → may_hold_configured u n p (slot_of here ready last) ≡ some_of u n (word_has ready) p
      by (inl z) r (inl none) = rw z (sym (some_of-zero u n ready p none))
      by (inl z) r (inr same) =
          rw z (sym (some_of-zero u n ready p (same.0 ∙ eqb-true here 0 z)))
      by (inr h) (inl z) c = rw (h, z) (sym (some_of-zero u n ready p (eqb-true ready 0 z)))
      by (inr h) (inr r) (inl none) = absurd (both_ways _ r (eq-eqb ready 0 none))
      by (inr h) (inr r) (inr same) =
          rw (h, r) (ap (λ k. some_of u n (word_has k) p) (sym same.0))

  pub surely_configured-is : surely_configured u n p (slot_of here ready last)
      ≡ (not (ready == 0) && all_of u n (word_has ready) p)
  surely_configured-is = by (cases_Bool (here == 0)) (cases_Bool (ready == 0)) is.phase
    where
      by : ((here == 0) ≡ true) ⊎ ((here == 0) ≡ false)
          → ((ready == 0) ≡ true) ⊎ ((ready == 0) ≡ false)
          → (ready ≡ 0) ⊎ ((ready ≡ here) × (last ≡ here))
          → surely_configured u n p (slot_of here ready last)
          ≡ (not (ready == 0) && all_of u n (word_has ready) p)
      by (inl z) r (inl none) = rw (z, eq-eqb ready 0 none) refl
      by (inl z) r (inr same) = rw (z, eq-eqb ready 0 (same.0 ∙ eqb-true here 0 z)) refl
      by (inr h) (inl z) c = rw (h, z) refl
      by (inr h) (inr r) (inl none) = absurd (both_ways _ r (eq-eqb ready 0 none))
      by (inr h) (inr r) (inr same) =
          rw (h, r) (ap (λ k. all_of u n (word_has k) p) (sym same.0))

  pub ready_known : (b : ℕ) → word_has ready b ≡ true → b < variants u n
  ready_known b has =
      elim is.phase [
        | inl none ↦ absurd (both_ways _ (ap (λ k. word_has k b) none ∙ word_has_zero b) has)
        | inr same ↦ is.here_known b (ap (λ k. word_has k b) (sym same.0) ∙ has)
      ]

  both_known : (b : ℕ) → word_has both b ≡ true → b < variants u n
  both_known b has = by (cases_Bool (last == 0))
    where
      by : ((last == 0) ≡ true) ⊎ ((last == 0) ≡ false) → b < variants u n
      by (inl none) =
          let zero : both ≡ 0 = is.joined ∙ rw none refl in
          absurd (both_ways _ (ap (λ k. word_has k b) zero ∙ word_has_zero b) has)
      by (inr some) =
          let joined : both ≡ bit_or here last = is.joined ∙ rw some refl in
          elim (or_cases _ _ (sym (word_has-or here last b)
          ∙ ap (λ k. word_has k b) (sym joined) ∙ has)) [
            | inl present ↦ is.here_known b present
            | inr was ↦ is.last_known b was
          ]

-- ---- the tests of a may map

module _ (u : Universe) (w : Words) (is : AreWords u w) where
  pub met-inside : (e : Entry)
      → surely_met u (may_of w) e ≡ some_name_inside u w.ready (satisfies_entry u e)
  unfolding surely_met
  met-inside e =
      some_below-same (names u) _ _
      (λ n lt. surely_configured-is u n (λ b. satisfies_entry u e (variant n b)) _ _ _ _
      (is.each n))

  pub met_is : (e : Entry) (row : List ℕ) → IsRowOf u (satisfies_entry u e) row
      → (t : Bool) → (t ≡ true) ↔ HasNameInside (variants_of w.ready) (variants_of row)
      → t ≡ surely_met u (may_of w) e
  met_is e row rows t told =
      inside_is u w.ready (satisfies_entry u e) row is.ready_long rows
      (λ n b. ready_known u n (λ k. false) _ _ _ _ (is.each n) b) t told
      ∙ sym (met-inside e)

  -- the same by those who satisfy it
  pub met_from : (e : Entry)
      → HasNameInside (variants_of w.ready) (variant_passes u (satisfies_entry u e))
      → surely_met u (may_of w) e ≡ true
  met_from e inside =
      met-inside e ∙ inside-from u w.ready (satisfies_entry u e) is.ready_long inside

  pub met_to : (e : Entry) → surely_met u (may_of w) e ≡ true
      → HasNameInside (variants_of w.ready) (variant_passes u (satisfies_entry u e))
  met_to e met =
      inside-to u w.ready (satisfies_entry u e) is.ready_long
      (λ n b. ready_known u n (λ k. false) _ _ _ _ (is.each n) b) (sym (met-inside e) ∙ met)

  pub common_is : (p : Variant → Bool) (t : Bool)
      → (t ≡ true) ↔ HaveCommon (variants_of w.here) (variant_passes u p)
      → t ≡ some_name u (may_of w) (λ n s. may_hold u n (λ b. p (variant n b)) s)
  common_is p t told =
      same_tests t _ (λ holds. hit-from u w.here p is.here_long (told.0 holds))
      (λ holds. told.1 (hit-to u w.here p is.here_long holds))
      ∙ sym (some_below-same (names u) _ _
      (λ n lt. hold-is u n (λ b. p (variant n b)) _ _ _ _ (is.each n)))

  pub common_configured_is : (p : Variant → Bool) (t : Bool)
      → (t ≡ true) ↔ HaveCommon (variants_of w.ready) (variant_passes u p)
      → t ≡ some_name u (may_of w) (λ n s. may_hold_configured u n (λ b. p (variant n b)) s)
  common_configured_is p t told =
      same_tests t _ (λ holds. hit-from u w.ready p is.ready_long (told.0 holds))
      (λ holds. told.1 (hit-to u w.ready p is.ready_long holds))
      ∙ sym (some_below-same (names u) _ _
      (λ n lt. configured-is u n (λ b. p (variant n b)) _ _ _ _ (is.each n)))

  pub hit_is : (p : Variant → Bool) (row : List ℕ) → IsRowOf u p row
      → (t : Bool) → (t ≡ true) ↔ HaveCommon (variants_of w.here) (variants_of row)
      → t ≡ some_name u (may_of w) (λ n s. may_hold u n (λ b. p (variant n b)) s)
  hit_is p row rows t told = common_is p t (hit_row u w.here p row is.here_long rows t told)

  pub ready_inside_is : (p : Variant → Bool) (row : List ℕ) → IsRowOf u p row
      → (t : Bool) → (t ≡ true) ↔ HasNameInside (variants_of w.ready) (variants_of row)
      → t ≡ some_name_inside u w.ready p
  ready_inside_is p row rows =
      inside_is u w.ready p row is.ready_long rows
      (λ n b. ready_known u n (λ k. false) _ _ _ _ (is.each n) b)

  pub both_inside_is : (p : Variant → Bool) (t : Bool)
      → (t ≡ true) ↔ HasNameInside (variants_of w.both) (variant_passes u p)
      → t ≡ some_name_inside u w.both p
  both_inside_is p t told =
      same_tests t _ (λ holds. inside-from u w.both p is.both_long (told.0 holds))
      (λ holds. told.1 (inside-to u w.both p is.both_long
      (λ n b. both_known u n (λ k. false) _ _ _ _ (is.each n) b) holds))
