-- The chroot after an instruction is allowed by the may map after it.
use Rattle.std.proofs.Common.{◌≡◌, ℕ, ◌<◌, Bool, true, ◌==◌, inl, inr, List, sym, ap, ◌∙◌, subst, arith, length-set, get_or-set_same, get_or-set_other, if◌then◌else◌}
use Rattle.std.proofs.lemmas.Bool.{cases_eq, eq-eqb, ne_eqb}
use Rattle.farm_model.specs.Common.{Universe, variant, names, variants, Chroot, slot, last_of, member, unpacked, changed}
use Rattle.farm_model.specs.declared.types.Slot.{Slot}
use Rattle.farm_model.specs.declared.types.Slot.TheVariants.{Absent, Unpacked}
use Rattle.farm_model.proofs.ChangedLaws.{slot-changed, length-changed}
use Rattle.plan_model.specs.Common.{Bits, MaySlot, MayUnpacked, May, Allows, allows_unpacked, AllowsAll, may_be_last}
use Rattle.farm_laws.proofs.Slots.{last_allowed, cond_allowed}

module _ (u : Universe) (m : May) (c : Chroot) (al : AllowsAll u m c) where
  -- the chroot after an unpack is allowed by the map after it
  pub unpack_keeps : (name : ℕ) (set : Bits) (b cost : ℕ) (built : List Bool) → name < names u
      → b < variants u name → set b ≡ true
      → AllowsAll u (record {
        slots =
            λ n. if n == name then MayUnpacked set (may_be_last (m.slots n)) else m.slots n;
        cost =
            cost;
        built = built;
      }) (unpacked c (variant name b))
  unpack_keeps name set b cost built lt in_range has =
      record {
        long = length-set c name _ ∙ al.long;
        each = λ n. elim (cases_eq n name) [
          | inl here ↦ let new : slot (unpacked c (variant name b)) n
              ≡ Unpacked b (last_of (slot c name))
              = ap (slot (unpacked c (variant name b))) here
              ∙ get_or-set_same c name _ Absent (omega (arith, al.long)) in
              let may : (if n == name then MayUnpacked set (may_be_last (m.slots n)) else m.slots n)
              ≡ MayUnpacked set (may_be_last (m.slots name))
              = rw (eq-eqb n name here) (ap (λ k. MayUnpacked set
              (may_be_last (m.slots k))) here) in
              rw (new, may)
              (subst (λ k. Allows (variants u k) (MayUnpacked set (may_be_last (m.slots name)))
              (Unpacked b (last_of (slot c name)))) (sym here)
              (allows_unpacked in_range has (last_allowed (al.each name))))
          | inr other ↦ let new : slot (unpacked c (variant name b)) n ≡ slot c n =
              get_or-set_other c name n _ Absent other in
              rw (new, ne_eqb n name other) (al.each n)
        ];
      }

  -- the same change of the members' slots, in the chroot and in the map
  pub change_keeps : (f : MaySlot → MaySlot) (g : Slot → Slot)
      → ((count : ℕ) (ms : MaySlot) (s : Slot) → Allows count ms s → Allows count (f ms) (g s))
      → (members : List ℕ) (cost : ℕ) (built : List Bool)
      → g Absent ≡ Absent → AllowsAll u
      (record {
        slots = λ n. if member members n then f (m.slots n) else m.slots n;
        cost =
            cost;
        built = built;
      }) (changed g c members)
  change_keeps f g keeps members cost built none =
      record {
        long = length-changed g c members ∙ al.long;
        each = λ n. rw (slot-changed g none c members n)
            (cond_allowed (member members n) (keeps _ _ _ (al.each n)) (al.each n));
      }
