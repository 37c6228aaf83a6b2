-- When a configured package outside a set still needs a member, as the definition and as the code
-- ask it.
use Rattle.std.proofs.Common.{◌≡◌, ℕ, ◌<◌, Bool, true, false, not, refl, sym, ap, ◌∙◌, subst, inl, inr, List, [], ◌∷◌, length, if◌then◌else◌}
use Rattle.std.specs.Cmp.{both_ways as same_tests}
use Rattle.std.specs.Prelude.{◌&&◌, ◌||◌, ◌==◌}
use Rattle.std.specs.List.{list_any}
use Rattle.std.proofs.lemmas.Bool.{false≢true, cases_Bool, cases_lt, or_cases, or_left, or_right, and_parts, and_from, both_ways, eqb-true}
use Rattle.std.proofs.lemmas.List.{get_or_past}
use Rattle.deb_relation.specs.Relations.{Entry}
use Rattle.farm_model.specs.Common.{some_below, Universe, variant, satisfies_entry, Chroot, slot, holds_configured, member, meets_entry, entries, changed, still_needed, deconfigured_slot, deconfigured, removed}
use Rattle.farm_model.specs.declared.types.Slot.{Slot}
use Rattle.farm_model.specs.declared.types.Slot.TheVariants.{Absent, Unpacked, Configured}
use Rattle.farm_model.proofs.BelowLaws.{some_below-at, some_below-found, some_below-same}
use Rattle.farm_model.proofs.ChangedLaws.{slot-changed, length-changed}
use Rattle.chroot_state.specs.Needed.{met_inside, met_outside, needs_members, is_needed}

-- what is true outside of the one is so of both, where the other is not
left_alone : (a b : Bool) → ((a || b) && not b) ≡ (a && not b)
left_alone true true = refl
left_alone true false = refl
left_alone false true = refl
left_alone false false = refl

module _ (u : Universe) (c : Chroot) where
  -- the slot of a name satisfies the entry by what is configured
  abbrev meets_at : Entry → ℕ → Slot → Bool
  meets_at e n s = holds_configured (λ b. satisfies_entry u e (variant n b)) s

  inside-at : (members : List ℕ) (e : Entry) (n : ℕ) → member members n ≡ true
      → meets_at e n (slot c n) ≡ true → met_inside u members c e ≡ true
  inside-at [] e n is h = absurd (false≢true is)
  inside-at (m ∷ ms) e n is h =
      elim (or_cases (m == n) (member ms n) is) [
        | inl here ↦ or_left _ _
            (subst (λ k. meets_at e k (slot c k) ≡ true) (sym (eqb-true m n here)) h)
        | inr there ↦ or_right _ _ (inside-at ms e n there h)
      ]

  meets-within : (e : Entry) (n : ℕ) → meets_at e n (slot c n) ≡ true → n < length c
  meets-within e n h =
      elim (cases_lt n (length c)) [
        | inl lt ↦ lt
        | inr past ↦ absurd (both_ways (meets_at e n (slot c n))
            (ap (meets_at e n) (get_or_past c n Absent past)) h)
      ]

  inside-met : (members : List ℕ) (e : Entry) → met_inside u members c e ≡ true
      → meets_entry u c e ≡ true
  unfolding meets_entry
  inside-met [] e h = absurd (false≢true h)
  inside-met (m ∷ ms) e h =
      elim (or_cases (meets_at e m (slot c m)) (met_inside u ms c e) h) [
        | inl here ↦ some_below-at (length c) (λ n. meets_at e n (slot c n)) m
            (meets-within e m here) here
        | inr there ↦ inside-met ms e there
      ]

  outside-met : (members : List ℕ) (e : Entry) → met_outside u members c e ≡ true
      → meets_entry u c e ≡ true
  unfolding meets_entry met_outside
  outside-met members e h =
      let r = some_below-found (length c)
      (λ n. not (member members n) && meets_at e n (slot c n)) h in
      some_below-at (length c) (λ n. meets_at e n (slot c n)) r.0 r.1
      (and_parts (not (member members r.0)) _ r.2).1

  met-parted : (members : List ℕ) (e : Entry) → meets_entry u c e ≡ true
      → (met_inside u members c e || met_outside u members c e) ≡ true
  unfolding meets_entry met_outside
  met-parted members e h =
      let r = some_below-found (length c) (λ n. meets_at e n (slot c n)) h in
      elim (cases_Bool (member members r.0)) [
        | inl is ↦ or_left _ _ (inside-at members e r.0 is r.2)
        | inr out ↦ or_right (met_inside u members c e) _
            (some_below-at (length c)
            (λ n. not (member members n) && meets_at e n (slot c n)) r.0 r.1
            (and_from _ _ (ap not out) r.2))
      ]

  met-inside-outside : (members : List ℕ) (e : Entry)
      → meets_entry u c e ≡ (met_inside u members c e || met_outside u members c e)
  met-inside-outside members e =
      same_tests _ _ (met-parted members e)
      (λ h. elim (or_cases (met_inside u members c e) _ h) [
        | inl within ↦ inside-met members e within
        | inr out ↦ outside-met members e out
      ])

  module _ (f : Slot → Slot) (none : f Absent ≡ Absent)
      (gone : (p : ℕ → Bool) (s : Slot) → holds_configured p (f s) ≡ false) where
    at-changed : (is : Bool) (p : ℕ → Bool) (s : Slot)
        → holds_configured p (if is then f s else s) ≡ (not is && holds_configured p s)
    at-changed true p s = gone p s
    at-changed false p s = refl

    -- after the change only what is outside of the set meets an entry
    met-changed : (members : List ℕ) (e : Entry)
        → meets_entry u (changed f c members) e ≡ met_outside u members c e
    unfolding meets_entry met_outside
    met-changed members e =
        ap (λ k. some_below k (λ n. meets_at e n (slot (changed f c members) n)))
        (length-changed f c members)
        ∙ some_below-same (length c) (λ n. meets_at e n (slot (changed f c members) n))
        (λ n. not (member members n) && meets_at e n (slot c n))
        (λ n lt. ap (meets_at e n) (slot-changed f none c members n)
        ∙ at-changed (member members n) (λ b. satisfies_entry u e (variant n b)) (slot c n))

    needs-changed : (members : List ℕ) (e : Entry)
        → (meets_entry u c e && not (meets_entry u (changed f c members) e))
        ≡ needs_members u members c e
    needs-changed members e =
        let before = met-inside-outside members e in
        let after = met-changed members e in
        ap (λ b. b && not (meets_entry u (changed f c members) e)) before
        ∙ (ap (λ b. (met_inside u members c e || met_outside u members c e) && not b) after
        ∙ left_alone (met_inside u members c e) (met_outside u members c e))

    pub needed-changed : (members : List ℕ)
        → is_needed u members c ≡ still_needed u members c (changed f c members)
    unfolding is_needed still_needed
    needed-changed members =
        some_below-same (length c) _ _
        (λ n lt. ap (λ (t : Entry → Bool). not (member members n)
        && holds_configured (λ b. list_any t (entries u (variant n b))) (slot c n))
        (λ i e. sym (needs-changed members e) i))

deconfigured-gone : (p : ℕ → Bool) (s : Slot) → holds_configured p (deconfigured_slot s) ≡ false
deconfigured-gone p Absent = refl
deconfigured-gone p (Unpacked b last) = refl
deconfigured-gone p (Configured b) = refl

pub needed_deconfigured : (u : Universe) (c : Chroot) (members : List ℕ)
    → is_needed u members c ≡ still_needed u members c (deconfigured c members)
needed_deconfigured u c members = needed-changed u c deconfigured_slot refl deconfigured-gone
    members

pub needed_removed : (u : Universe) (c : Chroot) (members : List ℕ)
    → is_needed u members c ≡ still_needed u members c (removed c members)
needed_removed u c members = needed-changed u c (λ s. Absent) refl (λ p s. refl) members
