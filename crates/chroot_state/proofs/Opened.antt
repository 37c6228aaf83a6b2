-- What a base chroot holds, by its slots.
use Rattle.std.proofs.Common.{◌≡◌, ℕ, ◌+◌, ◌-◌, ◌<◌, ◌≤◌, refl, sym, ap, ◌∙◌, subst, inl, inr, Option, Some, None, List, [], ◌∷◌, length, drop, replicate, get_or, set, map, arith, zero-add}
use Rattle.std.specs.Prelude.{◌==◌}
use Rattle.std.specs.List.{find, range_with_len}
use Rattle.std.proofs.lemmas.Bool.{cases_lt, cases_eq, eqb-true, eq-eqb, ne_eqb}
use Rattle.std.proofs.lemmas.Grind.{get_or-set_at}
use Rattle.std.proofs.lemmas.List.{get_or_past, get_or-set_other, get_or-replicate, length-replicate, length-set, drop_more}
use Rattle.std.proofs.lemmas.List.FromFn.{get_or-map-range_with_len, length-map-range_with_len, fill_by_all}
use Rattle.farm_model.specs.Common.{Universe, variant, names, base, slot, base_slot, base_chroot, IsKnown, IsUniverse}
use Rattle.farm_model.specs.declared.types.Variant.{Variant}
use Rattle.farm_model.specs.declared.types.Slot.{Slot}
use Rattle.farm_model.specs.declared.types.Slot.TheVariants.{Absent, Configured}
use Rattle.farm_model.proofs.FindLaws.{find-all, find-passes}
use Rattle.farm_model.proofs.VariantLaws.{name_within}
use Rattle.chroot_state.specs.Slots.{IsKnownSlot, AreSlots}

module _ (u : Universe) (b : ℕ) where
  abbrev pub based_slot : ℕ → Slot
  based_slot n = base_slot (find (λ (v : Variant). v.name == n) (base u b).packages)

  -- what is held after the packages from one on were gone through, from the last
  pub record BasedFrom (packages : List Variant) (slots : List Slot) : Type 0 where
    pub long : length slots ≡ names u
    pub each : (n : ℕ) → n < names u
        → get_or slots n Absent ≡ base_slot (find (λ (v : Variant). v.name == n) packages)

  pub based-none : (slots : List Slot) (count : ℕ) → count ≡ names u
      → slots ≡ replicate count Absent → BasedFrom [] slots
  based-none slots count all e = record {
    long = ap length e ∙ (length-replicate count Absent ∙ all);
    each = λ n lt.
        ap (λ (xs : List Slot). get_or xs n Absent) e
        ∙ get_or-replicate count n Absent Absent (omega (arith, all, lt));
  }

  set-based : (v : Variant) (rest : List Variant) (slots : List Slot) (n : ℕ)
      → n < names u → v.name < names u → BasedFrom rest slots
      → get_or (set slots v.name (Configured v.bit)) n Absent
      ≡ base_slot (find (λ (w : Variant). w.name == n) (v ∷ rest))
  set-based v rest slots n lt within so_far = elim (cases_eq v.name n) [
    | inl same ↦
        get_or-set_at slots v.name n (Configured v.bit) Absent (sym same)
        (omega (arith, so_far.long, within))
        ∙ sym (rw (eq-eqb v.name n same) refl)
    | inr other ↦
        get_or-set_other slots v.name n (Configured v.bit) Absent (λ e. other (sym e))
        ∙ (so_far.each n lt ∙ sym (rw (ne_eqb v.name n other) refl))
  ]

  -- each package of a base chroot has a name of the universe
  pub named-at : (packages : List Variant) (i : ℕ) (d : Variant) → IsUniverse u
      → packages ≡ (base u b).packages → i < length packages → (get_or packages i d).name < names u
  named-at packages i d sound is lt =
      subst (λ xs. (get_or xs i d).name < names u) (sym is)
      (name_within u (get_or (base u b).packages i d)
      (sound.bases_known b i d (omega (arith, lt, ap length is))))

  pub based-more : (packages : List Variant) (slots : List Slot) (i : ℕ) (v : Variant) → 0 < i
      → i ≤ length packages → v ≡ get_or packages (i - 1) v → v.name < names u
      → BasedFrom (drop i packages) slots
      → BasedFrom (drop (i - 1) packages) (set slots v.name (Configured v.bit))
  based-more packages slots i v some le is within so_far =
      let next : i - 1 + 1 ≡ i = omega (arith, some) in
      let rest : drop (i - 1) packages ≡ v ∷ drop i packages =
      drop_more packages (i - 1) v (omega (arith, some, le))
      ∙ (ap (λ x. x ∷ drop (i - 1 + 1) packages) (sym is)
      ∙ ap (λ k. v ∷ drop k packages) next) in
      subst (λ xs. BasedFrom xs (set slots v.name (Configured v.bit))) (sym rest) (record {
        long = length-set slots v.name (Configured v.bit) ∙ so_far.long;
        each = λ n lt. set-based v (drop i packages) slots n lt within so_far;
      })

  pub based-all : (slots : List Slot) → BasedFrom (base u b).packages slots
      → slots ≡ base_chroot u b
  unfolding base_chroot
  based-all slots o = fill_by_all based_slot slots (names u) Absent o.long o.each

  known-found : (n : ℕ) (found : Option Variant) → IsUniverse u
      → found ≡ find (λ (v : Variant). v.name == n) (base u b).packages
      → IsKnownSlot u n (base_slot found)
  known-found n None sound is = tt
  known-found n (Some v) sound is =
      let known =
      find-all (IsKnown u) (λ (w : Variant). w.name == n) (base u b).packages v
      (sound.bases_known b) is in
      let same =
      eqb-true v.name n
      (find-passes (λ (w : Variant). w.name == n) (base u b).packages v is) in
      subst (λ k. IsKnown u (variant k v.bit)) same known

  -- the slots of a base chroot hold known variants
  pub based-slots : IsUniverse u → AreSlots u (base_chroot u b)
  unfolding base_chroot
  based-slots sound = record {
    long = length-map-range_with_len based_slot 0 (names u);
    known = each;
  }
    where
      each : (n : ℕ) → IsKnownSlot u n (slot (map based_slot (range_with_len 0 (names u))) n)
      each n =
          elim (cases_lt n (names u)) [
            | inl there ↦ subst (λ s. IsKnownSlot u n s)
                (sym (get_or-map-range_with_len based_slot 0 (names u) n n Absent there
                (zero-add n)))
                (known-found n _ sound refl)
            | inr past ↦ subst (λ s. IsKnownSlot u n s)
                (sym (get_or_past (map based_slot (range_with_len 0 (names u))) n Absent
                (omega (arith, length-map-range_with_len based_slot 0 (names u))))) tt
          ]
