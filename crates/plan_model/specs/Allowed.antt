-- A chroot is one that a may map allows.
--
--   AllowsLast, Allows, AllowsAll       a last configured variant, a slot, a chroot
use Rattle.std.specs.Prelude.{◌≡◌, ℕ, ◌<◌, true, length, Option, Some}
use Rattle.farm_model.specs.Common.{Universe, names, variants, Chroot, slot}
use Rattle.farm_model.specs.declared.types.Slot.{Slot}
use Rattle.farm_model.specs.declared.types.Slot.TheVariants.{Absent, Unpacked, Configured}
use Rattle.plan_model.specs.May.{Bits, MaySlot, MayAbsent, MayUnpacked, MayConfigured, May}

-- the last configured variant, if any, is one that the set allows: one of it, or any or none where
-- it is empty, since then none is known
pub data AllowsLast (count : ℕ) (last : Bits) : Option ℕ → Type 0 where
  unknown : {was : Option ℕ} → ((b : ℕ) → b < count → last b ≡ true → ⊥)
      → AllowsLast count last was
  once : {b : ℕ} → b < count → last b ≡ true → AllowsLast count last (Some b)

-- a slot of a chroot is one that the map's slot allows, among so many variants
pub data Allows (count : ℕ) : MaySlot → Slot → Type 0 where
  allows_absent : Allows count MayAbsent Absent
  allows_unpacked : {current last : Bits} {b : ℕ} {was : Option ℕ} → b < count → current b ≡ true
      → AllowsLast count last was → Allows count (MayUnpacked current last) (Unpacked b was)
  allows_configured : {current : Bits} {b : ℕ} → b < count → current b ≡ true
      → Allows count (MayConfigured current) (Configured b)

-- a chroot is one that the map allows: each of its slots is
pub record AllowsAll (u : Universe) (m : May) (c : Chroot) : Type 0 where
  pub long : length c ≡ names u
  pub each : (n : ℕ) → Allows (variants u n) (m.slots n) (slot c n)
