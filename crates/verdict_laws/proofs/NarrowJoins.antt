-- Maps that are narrower than others at the ends of two branches: so is the map behind both, and
-- the same names are in different phases.
use Rattle.std.proofs.Common.{◌≡◌, ℕ, Bool, not, ◌&&◌, inl, inr, refl, ap, ◌∙◌, arith}
use Rattle.std.proofs.lemmas.Bool.{or_cases, or_left, or_right, and_parts, and_from}
use Rattle.farm_model.specs.Common.{some_below, Universe, names, variants}
use Rattle.farm_model.proofs.BelowLaws.{some_below-at, some_below-found, some_below-mono}
use Rattle.farm_laws.proofs.Slots.{or-mono}
use Rattle.plan_model.specs.Common.{Bits, MaySlot, May, is_some_of, is_same_phase, phases_differ, either, either_last, joined_slot, both_built, joined_may, Maps}
use Rattle.verdict_laws.proofs.Narrower.{IsPart, Narrows, both_absent, both_unpacked, both_configured, NarrowsAll}

either-part : {count : ℕ} {set other whole whole_other : Bits} → IsPart count set whole
    → IsPart count other whole_other → IsPart count (either set other) (either whole whole_other)
either-part {count = count} {set = set} {other = other} {whole = whole}
    {whole_other = whole_other} is is_other =
    record {
      within = λ b lt e. or-mono _ _ _ _ (is.within b lt) (is_other.within b lt) e;
      some = λ e.
          let found = some_below-found count (either whole whole_other) e in
          elim (or_cases (whole found.0) _ found.2) [
            | inl one ↦
                some_below-mono count set (either set other) (λ b lt h. or_left (set b) _ h)
                (is.some (some_below-at count whole found.0 found.1 one))
            | inr two ↦
                some_below-mono count other (either set other) (λ b lt h. or_right (set b) _ h)
                (is_other.some (some_below-at count whole_other found.0 found.1 two))
          ];
    }

-- the sets of variants configured last are empty where one of the two is: both are a part, so the
-- same sets are empty
either_last-part : (u : Universe) (n : ℕ) {last other whole whole_other : Bits}
    → IsPart (variants u n) last whole → IsPart (variants u n) other whole_other
    → IsPart (variants u n) (either_last u n last other) (either_last u n whole whole_other)
either_last-part u n {last = last} {other = other} {whole = whole} {whole_other = whole_other} is
    is_other =
    record {
      within = λ b lt e.
          let parts = and_parts (is_some_of u n last && is_some_of u n other) _ e in
          let both = and_parts (is_some_of u n last) (is_some_of u n other) parts.0 in
          and_from _ _
          (and_from _ _ (some_below-mono (variants u n) last whole is.within both.0)
          (some_below-mono (variants u n) other whole_other is_other.within both.1))
          (or-mono _ _ _ _ (is.within b lt) (is_other.within b lt) parts.1);
      some = λ e.
          let wide = some_below-found (variants u n) (either_last u n whole whole_other) e in
          let parts = and_parts (is_some_of u n whole && is_some_of u n whole_other) _ wide.2 in
          let both = and_parts (is_some_of u n whole) (is_some_of u n whole_other) parts.0 in
          let one = is.some both.0 in
          let two = is_other.some both.1 in
          let found = some_below-found (variants u n) last one in
          some_below-at (variants u n) (either_last u n last other) found.0 found.1
          (and_from _ _ (and_from _ _ one two) (or_left (last found.0) _ found.2));
    }

joined_slot-narrower : (u : Universe) (n : ℕ) {s t x y : MaySlot} → Narrows (variants u n) s t
    → Narrows (variants u n) x y
    → Narrows (variants u n) (joined_slot u n s x) (joined_slot u n t y)
joined_slot-narrower u n both_absent both_absent = both_absent
joined_slot-narrower u n both_absent (both_unpacked is was) = both_absent
joined_slot-narrower u n both_absent (both_configured is) = both_absent
joined_slot-narrower u n (both_unpacked is was) both_absent = both_absent
joined_slot-narrower u n (both_unpacked is was) (both_unpacked other before) =
    both_unpacked (either-part is other) (either_last-part u n was before)
joined_slot-narrower u n (both_unpacked is was) (both_configured other) = both_absent
joined_slot-narrower u n (both_configured is) both_absent = both_absent
joined_slot-narrower u n (both_configured is) (both_unpacked other before) = both_absent
joined_slot-narrower u n (both_configured is) (both_configured other) =
    both_configured (either-part is other)

same_phase-narrower : {count : ℕ} {s t x y : MaySlot} → Narrows count s t → Narrows count x y
    → is_same_phase s x ≡ is_same_phase t y
same_phase-narrower both_absent both_absent = refl
same_phase-narrower both_absent (both_unpacked is was) = refl
same_phase-narrower both_absent (both_configured is) = refl
same_phase-narrower (both_unpacked is was) both_absent = refl
same_phase-narrower (both_unpacked is was) (both_unpacked other before) = refl
same_phase-narrower (both_unpacked is was) (both_configured other) = refl
same_phase-narrower (both_configured is) both_absent = refl
same_phase-narrower (both_configured is) (both_unpacked other before) = refl
same_phase-narrower (both_configured is) (both_configured other) = refl

module _ (u : Universe) (first wide_first second wide_second : May)
    (one : NarrowsAll u first wide_first) (two : NarrowsAll u second wide_second) where
  pub phases-narrower : phases_differ u first second ≡ phases_differ u wide_first wide_second
  unfolding phases_differ
  phases-narrower =
      ap (some_below (names u))
      (same_tests_below (λ n. not (is_same_phase (first.slots n) (second.slots n)))
      (λ n. not (is_same_phase (wide_first.slots n) (wide_second.slots n)))
      (λ n. ap not (same_phase-narrower (one.each n) (two.each n))))
    where
      same_tests_below : (f g : ℕ → Bool) → ((n : ℕ) → f n ≡ g n) → f ≡ g
      same_tests_below f g h = λ i n. h n i

  pub joined-narrower : NarrowsAll u (joined_may u first second)
      (joined_may u wide_first wide_second)
  joined-narrower =
      record {
        each = λ n. joined_slot-narrower u n (one.each n) (two.each n);
        cost = omega (arith, one.cost, two.cost);
        built = ap (λ xs. both_built xs second.built) one.built
            ∙ ap (λ ys. both_built wide_first.built ys) two.built;
      }

-- each of the maps of a place
pub record NarrowsMaps (u : Universe) (m w : Maps) : Type 0 where
  pub here : NarrowsAll u m.here w.here
  pub ahead : NarrowsAll u m.ahead w.ahead
  pub first : NarrowsAll u m.first w.first
