-- What a map allows at the end of a branch, the map behind both branches allows.
use Rattle.std.proofs.Common.{◌≡◌, ℕ, zero, suc, ◌<◌, ◌≤◌, Bool, true, false, not, ◌&&◌, ◌||◌, inl, inr, List, [], ◌∷◌, length, Option, Some, refl, sym, ap, subst, arith}
use Rattle.std.proofs.lemmas.Bool.{false≢true, both_ways, and_parts, and_from, or_left, or_right, cases_lt, cases_Bool}
use Rattle.std.proofs.lemmas.List.{get_or_past}
use Rattle.farm_model.specs.Common.{Universe, names, variants, Chroot}
use Rattle.farm_model.specs.declared.types.Slot.{Slot}
use Rattle.farm_model.proofs.BelowLaws.{some_below-at, some_below-found}
use Rattle.plan_model.specs.Common.{was_built, Bits, MaySlot, MayAbsent, MayUnpacked, MayConfigured, May, is_some_of, AllowsLast, unknown, once, Allows, allows_absent, allows_unpacked, allows_configured, AllowsAll, is_same_phase, phases_differ, either_last, joined_slot, both_built, joined_may}

-- a known variant has a known name
pub variants_name : (u : Universe) (name b : ℕ) → b < variants u name → name < names u
unfolding variants names
variants_name u name b h =
    elim (cases_lt name (length u.packages)) [
      | inl lt ↦ lt
      | inr ge ↦ let none = ap length (get_or_past u.packages name [] ge) in
          absurd (omega (arith, none))
    ]

module _ (u : Universe) (n : ℕ) where
  -- one of the two sets of variants configured last
  last_either : (last other : Bits) (was : Option ℕ) (b : ℕ) → b < variants u n
      → was ≡ Some b → (last b || other b) ≡ true
      → AllowsLast (variants u n) (either_last u n last other) was
  last_either last other was b lt is has =
      elim (cases_Bool (is_some_of u n last && is_some_of u n other)) [
        | inl both ↦ subst (AllowsLast (variants u n) (either_last u n last other)) (sym is)
            (once lt (and_from _ _ both has))
        | inr one ↦ unknown (λ k below e. both_ways _ one (and_parts _ _ e).0)
      ]

  none_either : (last other : Bits) (was : Option ℕ)
      → ((is_some_of u n last && is_some_of u n other) ≡ true → ⊥)
      → AllowsLast (variants u n) (either_last u n last other) was
  none_either last other was none = unknown (λ b lt e. none (and_parts _ _ e).0)

  last_left : (last other : Bits) {was : Option ℕ} → AllowsLast (variants u n) last was
      → AllowsLast (variants u n) (either_last u n last other) was
  last_left last other (unknown none) =
      none_either last other _ (λ e. let found = some_below-found (variants u n) last
      (and_parts (is_some_of u n last) _ e).0 in none found.0 found.1 found.2)
  last_left last other (once {b = b} lt has) =
      last_either last other (Some b) b lt refl (or_left (last b) (other b) has)

  last_right : (last other : Bits) {was : Option ℕ} → AllowsLast (variants u n) other was
      → AllowsLast (variants u n) (either_last u n last other) was
  last_right last other (unknown none) =
      none_either last other _ (λ e. let found = some_below-found (variants u n) other
      (and_parts (is_some_of u n last) _ e).1 in none found.0 found.1 found.2)
  last_right last other (once {b = b} lt has) =
      last_either last other (Some b) b lt refl (or_right (last b) (other b) has)

  slot_left : (other : MaySlot) {ms : MaySlot} {s : Slot} → is_same_phase ms other ≡ true
      → Allows (variants u n) ms s → Allows (variants u n) (joined_slot u n ms other) s
  slot_left MayAbsent e allows_absent = allows_absent
  slot_left (MayUnpacked c l) e allows_absent = allows_absent
  slot_left (MayConfigured c) e allows_absent = allows_absent
  slot_left MayAbsent e (allows_unpacked lt c l) = absurd (false≢true e)
  slot_left (MayUnpacked other before) e (allows_unpacked {current = set} {last = last} {b = b}
      lt c l) =
      allows_unpacked lt (or_left (set b) (other b) c) (last_left last before l)
  slot_left (MayConfigured other) e (allows_unpacked lt c l) = absurd (false≢true e)
  slot_left MayAbsent e (allows_configured lt c) = absurd (false≢true e)
  slot_left (MayUnpacked other before) e (allows_configured lt c) = absurd (false≢true e)
  slot_left (MayConfigured other) e (allows_configured {current = set} {b = b} lt c) =
      allows_configured lt (or_left (set b) (other b) c)

  slot_right : (first : MaySlot) {ms : MaySlot} {s : Slot} → is_same_phase first ms ≡ true
      → Allows (variants u n) ms s → Allows (variants u n) (joined_slot u n first ms) s
  slot_right MayAbsent e allows_absent = allows_absent
  slot_right (MayUnpacked c l) e allows_absent = allows_absent
  slot_right (MayConfigured c) e allows_absent = allows_absent
  slot_right MayAbsent e (allows_unpacked lt c l) = absurd (false≢true e)
  slot_right (MayUnpacked first before) e (allows_unpacked {current = set} {last = last} {b = b}
      lt c l) =
      allows_unpacked lt (or_right (first b) (set b) c) (last_right before last l)
  slot_right (MayConfigured first) e (allows_unpacked lt c l) = absurd (false≢true e)
  slot_right MayAbsent e (allows_configured lt c) = absurd (false≢true e)
  slot_right (MayUnpacked first before) e (allows_configured lt c) = absurd (false≢true e)
  slot_right (MayConfigured first) e (allows_configured {current = set} {b = b} lt c) =
      allows_configured lt (or_right (first b) (set b) c)

  -- past the last name nothing is held
  past_left : (other : MaySlot) {ms : MaySlot} {s : Slot} → names u ≤ n
      → Allows (variants u n) ms s → Allows (variants u n) (joined_slot u n ms other) s
  past_left MayAbsent ge allows_absent = allows_absent
  past_left (MayUnpacked c l) ge allows_absent = allows_absent
  past_left (MayConfigured c) ge allows_absent = allows_absent
  past_left other ge (allows_unpacked lt c l) = let h = variants_name u n _ lt in
      absurd (omega (arith, h, ge))
  past_left other ge (allows_configured lt c) = let h = variants_name u n _ lt in
      absurd (omega (arith, h, ge))

  past_right : (first : MaySlot) {ms : MaySlot} {s : Slot} → names u ≤ n
      → Allows (variants u n) ms s → Allows (variants u n) (joined_slot u n first ms) s
  past_right MayAbsent ge allows_absent = allows_absent
  past_right (MayUnpacked c l) ge allows_absent = allows_absent
  past_right (MayConfigured c) ge allows_absent = allows_absent
  past_right first ge (allows_unpacked lt c l) = let h = variants_name u n _ lt in
      absurd (omega (arith, h, ge))
  past_right first ge (allows_configured lt c) = let h = variants_name u n _ lt in
      absurd (omega (arith, h, ge))

-- where no phase differs, each name is in one
same_phases : (u : Universe) (first second : May) → phases_differ u first second ≡ false
    → (n : ℕ) → n < names u → is_same_phase (first.slots n) (second.slots n) ≡ true
unfolding phases_differ
same_phases u first second e n lt =
    elim (cases_Bool (is_same_phase (first.slots n) (second.slots n))) [
      | inl same ↦ same
      | inr other ↦ absurd (both_ways _ e (some_below-at (names u)
          (λ k. not (is_same_phase (first.slots k) (second.slots k))) n lt (ap not other)))
    ]

pub allows_left : (u : Universe) (first second : May) (c : Chroot)
    → phases_differ u first second ≡ false → AllowsAll u first c
    → AllowsAll u (joined_may u first second) c
allows_left u first second c e al =
    record {
      long = al.long;
      each = λ n. elim (cases_lt n (names u)) [
        | inl lt ↦ slot_left u n (second.slots n) (same_phases u first second e n lt) (al.each n)
        | inr ge ↦ past_left u n (second.slots n) ge (al.each n)
      ];
    }

pub allows_right : (u : Universe) (first second : May) (c : Chroot)
    → phases_differ u first second ≡ false → AllowsAll u second c
    → AllowsAll u (joined_may u first second) c
allows_right u first second c e al =
    record {
      long = al.long;
      each = λ n. elim (cases_lt n (names u)) [
        | inl lt ↦ slot_right u n (first.slots n) (same_phases u first second e n lt) (al.each n)
        | inr ge ↦ past_right u n (first.slots n) ge (al.each n)
      ];
    }

-- what both have built each has
pub both_built-each : (xs ys : List Bool) (r : ℕ) → was_built (both_built xs ys) r ≡ true
    → (was_built xs r ≡ true) × (was_built ys r ≡ true)
both_built-each [] [] r e = (e, e)
both_built-each [] (y ∷ ys) r e = absurd (none r e)
  where
    none : (k : ℕ) → was_built [] k ≡ true → ⊥
    none k h = false≢true h
both_built-each (x ∷ xs) [] r e = absurd (none r e)
  where
    none : (k : ℕ) → was_built [] k ≡ true → ⊥
    none k h = false≢true h
both_built-each (x ∷ xs) (y ∷ ys) zero e = and_parts x y e
both_built-each (x ∷ xs) (y ∷ ys) (suc r) e = both_built-each xs ys r e

pub both_built-long : (xs ys : List Bool)
    → (length (both_built xs ys) ≤ length xs) × (length (both_built xs ys) ≤ length ys)
both_built-long [] [] = (omega arith, omega arith)
both_built-long [] (y ∷ ys) = (omega arith, omega arith)
both_built-long (x ∷ xs) [] = (omega arith, omega arith)
both_built-long (x ∷ xs) (y ∷ ys) = let h = both_built-long xs ys in
    (omega (arith, h.0), omega (arith, h.1))
