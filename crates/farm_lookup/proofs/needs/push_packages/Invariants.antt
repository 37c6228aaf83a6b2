use Rattle.std.proofs.Common.{◌≡◌, ◌++◌, take}
use Rattle.std.specs.List.{flat_map}
use Rattle.farm_lookup.specs.Unmet.{of_package}
use Rattle.farm_lookup.proofs.needs.push_packages.Given as goal

abbrev pub invariant-loop-variant : goal.invariant-loop-variant
invariant-loop-variant l =
    l.list.items
    ≡ l.initial.list.items
    ++ flat_map (of_package l.universe) (take l.variant-index l.more)
