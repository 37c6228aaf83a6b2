use Rattle.std.proofs.Common.{◌≡◌, ◌++◌}
use Rattle.farm_lookup.specs.Unmet.{joined_below, of_name}
use Rattle.farm_lookup.proofs.needs.push_names.Given as goal

abbrev pub invariant-loop-name : goal.invariant-loop-name
invariant-loop-name l =
    l.list.items
    ≡ l.initial.list.items ++ joined_below l.name (of_name l.universe)
