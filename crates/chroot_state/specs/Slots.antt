-- What a chroot holds of names: known variants alone.
--
--   IsKnownSlot, AreSlots     slots of known variants
--   bit_of, phase_of          what is present of a name, and in which phase
use Rattle.std.specs.Prelude.{◌≡◌, ℕ, length, Option, Some, None, MatchOption}
use Rattle.farm_model.specs.Common.{Universe, names, variant, Chroot, slot, IsKnown}
use Rattle.farm_model.specs.declared.types.Slot.{Slot}
use Rattle.farm_model.specs.declared.types.Slot.TheVariants.{Absent, Unpacked, Configured}
use Rattle.chroot_state.specs.declared.phase.Phase.{Phase}
use Rattle.chroot_state.specs.declared.phase.Phase.TheVariants.{Absent as IsAbsent, Unpacked as IsUnpacked, Configured as IsConfigured}

-- a slot of a name holds its variants alone
abbrev pub IsKnownSlot : Universe → ℕ → Slot → Type 0
IsKnownSlot u n Absent = Unit {0}
IsKnownSlot u n (Unpacked b last) =
    IsKnown u (variant n b) × MatchOption last (Unit {0}) (λ w. IsKnown u (variant n w))
IsKnownSlot u n (Configured b) = IsKnown u (variant n b)

-- a slot for each name, of its variants alone
pub record AreSlots (u : Universe) (c : Chroot) : Type 0 where
  pub long : length c ≡ names u
  pub known : (n : ℕ) → IsKnownSlot u n (slot c n)

-- the present variant, by its bit
abbrev pub bit_of : Slot → Option ℕ
bit_of Absent = None
bit_of (Unpacked b last) = Some b
bit_of (Configured b) = Some b

-- the phase of what is present
abbrev pub phase_of : Slot → Phase
phase_of Absent = IsAbsent
phase_of (Unpacked b last) = IsUnpacked
phase_of (Configured b) = IsConfigured
