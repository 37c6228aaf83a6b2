-- The words that the example opens to compute.
use Rattle.deb_version.specs.Order.{runs_of, part_cmp, version_cmp}
use Rattle.deb_version.specs.Grammar.{version_at}
use Rattle.farm_model.specs.Common.{same, names, variants, package_of, size, pre_depends, depends, recipe, base, facts, satisfies, is_wanted, conflict, breaks, has_bit, initial, used, meets_entry, met_with, pre_met, unsettled, base_chroot, first_trap}
use Rattle.plan_model.specs.Common.{landing, capacity, newest, archive, step, is_finished}
use Rattle.leg_laws.specs.Named.{item_of, is_equal_item}

-- whoever unfolds this word unfolds all of these
unfoldable pub by_computation : Unit {0}
unfolding runs_of part_cmp version_cmp version_at same names variants package_of size pre_depends
    depends recipe base facts satisfies is_wanted conflict breaks has_bit initial used meets_entry
    met_with pre_met unsettled base_chroot first_trap landing capacity newest archive step
    is_finished item_of is_equal_item
by_computation = tt
