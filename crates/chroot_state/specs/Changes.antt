-- What the instructions on sets do to the slot of a member.
--
--   changed_slot     the slot after a change
use Rattle.farm_model.specs.Traps.{configured_slot, deconfigured_slot}
use Rattle.farm_model.specs.declared.types.Slot.{Slot}
use Rattle.farm_model.specs.declared.types.Slot.TheVariants.{Absent}
use Rattle.chroot_state.specs.declared.change.Change.{Change}
use Rattle.chroot_state.specs.declared.change.Change.TheVariants.{Configure, Deconfigure, Remove}

abbrev pub changed_slot : Change → Slot → Slot
changed_slot Configure s = configured_slot s
changed_slot Deconfigure s = deconfigured_slot s
changed_slot Remove s = Absent
