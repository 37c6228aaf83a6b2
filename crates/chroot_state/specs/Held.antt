-- A chroot as its calls see it.
--
--   Held              a chroot, its base chroot's number, and the disk space taken
--   room              what it can hold
--   opened            a base chroot
--   with_slots        the chroot with other slots
--   IsHeld            what each call keeps
use Rattle.std.specs.Prelude.{◌≡◌, ℕ, ◌<◌, length}
use Rattle.farm_model.specs.Common.{Universe, base, Chroot, used, base_chroot}
use Rattle.chroot_state.specs.Slots.{AreSlots}

-- what it holds of each name, the number of the base chroot that it was made from, and the disk
-- space taken in KiB
pub record Held : Type 0 where
  pub slots : Chroot
  pub base : ℕ
  pub used : ℕ

-- the KiB that it can hold
abbrev pub room : Universe → Held → ℕ
room u c = (base u c.base).capacity

-- the chroot with other slots
abbrev pub with_slots : Universe → Held → Chroot → Held
with_slots u c slots = record { slots = slots; base = c.base; used = used u slots }

-- what a base chroot holds
abbrev pub opened : Universe → ℕ → Held
opened u b = record { slots = base_chroot u b; base = b; used = used u (base_chroot u b) }

-- a chroot of this universe, whose disk space is the sum of the sizes
pub record IsHeld (u : Universe) (c : Held) : Type 0 where
  pub slots : AreSlots u c.slots
  pub based : c.base < length u.bases
  pub used : c.used ≡ used u c.slots
