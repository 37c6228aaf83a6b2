-- The words that a row opens to compute.
use Rattle.deb_version.specs.Order.{runs_of, part_cmp, version_cmp}
use Rattle.deb_version.specs.Grammar.{version_at}
use Rattle.farm_model.specs.Common.{same, names, variants, package_of, size, essential, pre_depends, depends, recipe, base, facts, satisfies, is_wanted, conflict, breaks, has_bit, initial, used, meets_entry, met_with, pre_met, unsettled, base_chroot, first_trap, still_needed}
use Rattle.plan_model.specs.Common.{landing, capacity, count, newest, archive, step, is_finished, possible, surely_met, surely_met_with, surely_pre_met, may_use, lane_cost, candidates, surely_met_outside, may_meet, may_be_needed, may_be_unsettled, risk_at, items}
use Rattle.verdict_laws.specs.Greatest.{is_fact, is_settled}

-- whoever unfolds this word unfolds all of these
unfoldable pub by_computation : Unit {0}
unfolding runs_of part_cmp version_cmp version_at same names variants package_of size essential
    pre_depends
    depends recipe base facts satisfies is_wanted conflict breaks has_bit initial used meets_entry
    met_with
    pre_met unsettled base_chroot first_trap still_needed landing capacity count newest archive step
    is_finished possible surely_met surely_met_with surely_pre_met may_use lane_cost candidates
    surely_met_outside may_meet may_be_needed may_be_unsettled risk_at
    items is_fact is_settled
by_computation = tt
