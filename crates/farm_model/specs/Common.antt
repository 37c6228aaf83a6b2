-- The names of this crate that others cite, passed on from one place. Declares nothing.
pub use Rattle.farm_model.specs.Below.{every_below, greatest_below, highest_below, some_below, sum_below}
pub use Rattle.farm_model.specs.Universe.{Base, Package, Recipe, Universe}
pub use Rattle.farm_model.specs.Packages.{contains, no_base, no_package, no_recipe, outputs, satisfies_any, satisfies_entry, some_variant, variant, word_has}
unfoldable pub use Rattle.farm_model.specs.Packages.{base, breaks, conflict, depends, essential, facts, has_bit, initial, is_wanted, names, package_of, pre_depends, recipe, same, satisfies, size, variants}
pub use Rattle.farm_model.specs.Chroot.{Chroot, base_slot, both_satisfy, entries, has_configured, holds, holds_configured, is_configured, is_present, is_unpacked, last_of, member, pre_meets, size_in, slot, some_slot, unmet}
unfoldable pub use Rattle.farm_model.specs.Chroot.{base_chroot, meets_entry, met_with, pre_met, unsettled, used}
pub use Rattle.farm_model.specs.Traps.{build_traps, changed, configure_traps, configured, configured_slot, deconfigure_traps, deconfigured, deconfigured_slot, remove_traps, removed, some_member, unpack_traps, unpacked}
unfoldable pub use Rattle.farm_model.specs.Traps.{first_trap, still_needed}
pub use Rattle.farm_model.specs.TrapText.{trap_text}
pub use Rattle.farm_model.specs.Sound.{IsInOrder, IsKnown, IsSettledBase, IsUniverse}
unfoldable pub use Rattle.farm_model.specs.Sound.{some_two}
