use Rattle.std.proofs.Common.{◌≡◌, ◌++◌, take}
use Rattle.std.specs.List.{flat_map}
use Rattle.farm_lookup.specs.Unmet.{of_entry}
use Rattle.farm_lookup.proofs.needs.push_field.Given as goal

abbrev pub invariant-loop-entry : goal.invariant-loop-entry
invariant-loop-entry l =
    l.list.items
    ≡ l.initial.list.items
    ++ flat_map (of_entry l.universe l.asker) (take l.entry-index l.field)
