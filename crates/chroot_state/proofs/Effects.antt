-- The chroot after a slot is put, and after the slots of members are changed.
use Rattle.std.proofs.Common.{◌≡◌, ℕ, ◌+◌, ◌-◌, ◌<◌, ◌≤◌, ◌^◌, Bool, true, false, refl, sym, ap, ◌∙◌, subst, inl, inr, List, [], ◌∷◌, ◌++◌, length, take, length-set, get_or-set_same, get_or-set_other, get_or, ext_get_or, arith, if◌then◌else◌}
use Rattle.std.specs.Prelude.{◌||◌, ◌==◌, slice_set}
use Rattle.std.proofs.Math.Bool.{or-false, or-true}
use Rattle.std.proofs.lemmas.Bool.{cases_eq, eq-eqb, ne_eqb}
use Rattle.std.proofs.lemmas.List.{take_more}
use Rattle.std.proofs.lemmas.List.Folds.{list_any-append}
use Rattle.farm_model.specs.Common.{Universe, names, Chroot, slot, member, used, size_in, changed}
use Rattle.farm_model.specs.declared.types.Slot.{Slot}
use Rattle.farm_model.specs.declared.types.Slot.TheVariants.{Absent, Unpacked, Configured}
use Rattle.farm_model.proofs.ChangedLaws.{slot-changed, length-changed}
use Rattle.chroot_state.specs.declared.change.Change.{Change}
use Rattle.chroot_state.specs.declared.change.Change.TheVariants.{Configure, Deconfigure, Remove}
use Rattle.chroot_state.specs.Changes.{changed_slot}
use Rattle.chroot_state.specs.Held.{Held, IsHeld, with_slots}
use Rattle.chroot_state.specs.Slots.{IsKnownSlot, AreSlots}
use Rattle.farm_universe.specs.Kept.{IsKept}
use Rattle.farm_universe.specs.declared.limits.TheConstants.{MOST_SIZE}
use Rattle.chroot_state.proofs.Sums.{used-put, size-within, used-small}

-- known slots stay so when a known one is put
put-slots : (u : Universe) (c : Chroot) (n : ℕ) (s : Slot) → AreSlots u c → n < length c
    → IsKnownSlot u n s → AreSlots u (slice_set c n s)
put-slots u c n s slots lt known = record {
  long = length-set c n s ∙ slots.long;
  known = λ k. elim (cases_eq k n) [
    | inl same ↦ subst (λ j. IsKnownSlot u j (slot (slice_set c n s) j)) (sym same)
        (subst (λ x. IsKnownSlot u n x) (sym (get_or-set_same c n s Absent lt)) known)
    | inr other ↦ subst (λ x. IsKnownSlot u k x) (sym (get_or-set_other c n k s Absent other))
        (slots.known k)
  ];
}

-- a chroot with other slots is one of its universe
pub with-slots : (u : Universe) (c : Held) (slots : Chroot) → IsHeld u c → AreSlots u slots
    → IsHeld u (with_slots u c slots)
with-slots u c slots held are = record { slots = are; based = held.based; used = refl }

module _ (u : Universe) (c : Held) (held : IsHeld u c) (n : ℕ) (lt : n < names u) where
  pub is-put : (s : Slot) (before after : ℕ) → before ≡ size_in u n (slot c.slots n)
      → after ≡ size_in u n s
      → record { slots = slice_set c.slots n s; base = c.base; used = c.used - before + after }
      ≡ with_slots u c (slice_set c.slots n s)
  is-put s before after was is =
      let sum = used-put u c.slots n s (omega (arith, held.slots.long)) in
      let within = size-within u c.slots n (omega (arith, held.slots.long)) in
      let same : c.used - before + after ≡ used u (slice_set c.slots n s) =
      omega (arith, sum, within, was, is, held.used) in
      λ i. record { slots = slice_set c.slots n s; base = c.base; used = same i }

  pub put-within : (before : ℕ) → before ≡ size_in u n (slot c.slots n) → before ≤ c.used
  put-within before was =
      let within = size-within u c.slots n (omega (arith, held.slots.long)) in
      omega (arith, within, was, held.used)

  pub put-fits : (before after : ℕ) → IsKept u → after ≤ MOST_SIZE
      → c.used - before + after < 2 ^ 64
  put-fits before after kept small =
      let most = used-small u c.slots kept held.slots in
      omega (arith, most, small, held.used)

  pub held-put : (s : Slot) → IsKnownSlot u n s → IsHeld u (with_slots u c (slice_set c.slots n s))
  held-put s known =
      with-slots u c (slice_set c.slots n s) held
      (put-slots u c.slots n s held.slots (omega (arith, held.slots.long)) known)

-- a changed slot holds known variants
pub known-changed : (u : Universe) (n : ℕ) (change : Change) (s : Slot) → IsKnownSlot u n s
    → IsKnownSlot u n (changed_slot change s)
known-changed u n Configure Absent known = tt
known-changed u n Configure (Unpacked b last) known = known.0
known-changed u n Configure (Configured b) known = known
known-changed u n Deconfigure Absent known = tt
known-changed u n Deconfigure (Unpacked b last) known = known
known-changed u n Deconfigure (Configured b) known = (known, known)
known-changed u n Remove s known = tt

twice : (change : Change) (s : Slot)
    → changed_slot change (changed_slot change s) ≡ changed_slot change s
twice Configure Absent = refl
twice Configure (Unpacked b last) = refl
twice Configure (Configured b) = refl
twice Deconfigure Absent = refl
twice Deconfigure (Unpacked b last) = refl
twice Deconfigure (Configured b) = refl
twice Remove s = refl

absent-changed : (change : Change) → changed_slot change Absent ≡ Absent
absent-changed Configure = refl
absent-changed Deconfigure = refl
absent-changed Remove = refl

module _ (change : Change) (c : Chroot) where
  abbrev after : List ℕ → Chroot
  after ms = changed (changed_slot change) c ms

  abbrev at : Bool → ℕ → Slot
  at is n = if is then changed_slot change (slot c n) else slot c n

  after-at : (ms : List ℕ) (n : ℕ) → slot (after ms) n ≡ at (member ms n) n
  after-at ms n = slot-changed (changed_slot change) (absent-changed change) c ms n

  at-twice : (is : Bool) (n : ℕ) → changed_slot change (at is n) ≡ at true n
  at-twice true n = twice change (slot c n)
  at-twice false n = refl

  -- no member: nothing changes
  pub changed-none : after [] ≡ c
  changed-none =
      ext_get_or Absent (after []) c (length-changed (changed_slot change) c [])
      (λ n lt. after-at [] n)

  member-more : (ms : List ℕ) (m n : ℕ) → member (ms ++ m ∷ []) n ≡ (member ms n || m == n)
  member-more ms m n =
      list_any-append (λ k. k == n) ms (m ∷ [])
      ∙ ap (λ b. member ms n || b) (or-false (m == n))

  -- one member more
  pub changed-more : (ms : List ℕ) (m : ℕ) → m < length c
      → after (ms ++ m ∷ [])
      ≡ slice_set (after ms) m (changed_slot change (slot (after ms) m))
  changed-more ms m lt =
      ext_get_or Absent _ _
      (length-changed (changed_slot change) c (ms ++ m ∷ [])
      ∙ sym (length-set (after ms) m _ ∙ length-changed (changed_slot change) c ms))
      (λ n within. elim (cases_eq n m) [
        | inl same ↦ here n same
        | inr other ↦ there n other
      ])
    where
      here : (n : ℕ) → n ≡ m
          → slot (after (ms ++ m ∷ [])) n
          ≡ slot (slice_set (after ms) m (changed_slot change (slot (after ms) m))) n
      here n same =
          subst
          (λ k. slot (after (ms ++ m ∷ [])) k
          ≡ slot (slice_set (after ms) m (changed_slot change (slot (after ms) m))) k)
          (sym same)
          (after-at (ms ++ m ∷ []) m
          ∙ (ap (λ b. at b m)
          (member-more ms m m
          ∙ (ap (λ b. member ms m || b) (eq-eqb m m refl) ∙ or-true (member ms m)))
          ∙ (sym (at-twice (member ms m) m)
          ∙ (ap (changed_slot change) (sym (after-at ms m))
          ∙ sym (get_or-set_same (after ms) m _ Absent
          (omega (arith, length-changed (changed_slot change) c ms)))))))

      there : (n : ℕ) → (n ≡ m → ⊥)
          → slot (after (ms ++ m ∷ [])) n
          ≡ slot (slice_set (after ms) m (changed_slot change (slot (after ms) m))) n
      there n other =
          after-at (ms ++ m ∷ []) n
          ∙ (ap (λ b. at b n)
          (member-more ms m n
          ∙ (ap (λ b. member ms n || b) (ne_eqb m n (λ e. other (sym e)))
          ∙ or-false (member ms n)))
          ∙ (sym (after-at ms n) ∙ sym (get_or-set_other (after ms) m n _ Absent other)))

-- for a loop over the members: the slots so far, and the next member
pub change-step : (change : Change) (c so_far : Chroot) (ms : List ℕ) (i : ℕ) (s : Slot)
    → i < length ms → get_or ms i 0 < length c
    → so_far ≡ changed (changed_slot change) c (take i ms)
    → s ≡ changed_slot change (slot so_far (get_or ms i 0))
    → slice_set so_far (get_or ms i 0) s ≡ changed (changed_slot change) c (take (i + 1) ms)
change-step change c so_far ms i s lt within is new =
    ap (λ x. slice_set so_far (get_or ms i 0) x) new
    ∙ (ap (λ xs. slice_set xs (get_or ms i 0) (changed_slot change (slot xs (get_or ms i 0)))) is
    ∙ sym
    (ap (changed (changed_slot change) c) (take_more ms i 0 lt)
    ∙ changed-more change c (take i ms) (get_or ms i 0) within))
