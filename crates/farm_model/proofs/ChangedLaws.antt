-- The chroot after a change of the slots of members.
use Rattle.std.proofs.Common.{◌≡◌, ℕ, Bool, true, false, inl, inr, List, length, refl, sym, ◌∙◌, arith, zero-add, if◌then◌else◌}
use Rattle.std.proofs.lemmas.Bool.{cases_lt}
use Rattle.std.proofs.lemmas.List.{get_or_past}
use Rattle.std.proofs.lemmas.List.FromFn.{get_or-map-range_with_len, length-map-range_with_len}
use Rattle.farm_model.specs.declared.types.Slot.{Slot}
use Rattle.farm_model.specs.declared.types.Slot.TheVariants.{Absent}
use Rattle.farm_model.specs.Chroot.{Chroot, slot, member}
use Rattle.farm_model.specs.Traps.{changed}

-- a member's slot is changed, the others stay
pub slot-changed : (f : Slot → Slot) → f Absent ≡ Absent → (c : Chroot) (members : List ℕ) (n : ℕ)
    → slot (changed f c members) n ≡ (if member members n then f (slot c n) else slot c n)
slot-changed f none c members n =
    elim (cases_lt n (length c)) [
      | inl lt ↦ get_or-map-range_with_len
          (λ k. if member members k then f (slot c k) else slot c k) 0 (length c) n n Absent lt
          (zero-add n)
      | inr ge ↦ let off : slot (changed f c members) n ≡ Absent
          = get_or_past _ n Absent (omega (
            arith,
            length-map-range_with_len
                (λ k. if member members k then f (slot c k) else slot c k) 0 (length c),
          )) in
          let was : slot c n ≡ Absent = get_or_past c n Absent ge in
          off ∙ rw was (stays (member members n))
    ]
  where
    stays : (b : Bool) → Absent ≡ (if b then f Absent else Absent)
    stays true = sym none
    stays false = refl

pub length-changed : (f : Slot → Slot) (c : Chroot) (members : List ℕ)
    → length (changed f c members) ≡ length c
length-changed f c members = length-map-range_with_len _ 0 (length c)
