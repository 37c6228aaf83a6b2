use Rattle.std.proofs.Common.{◌≡◌, ◌++◌}
use Rattle.farm_model.specs.Packages.{variant}
use Rattle.farm_lookup.specs.Unmet.{joined_below, of_initial}
use Rattle.farm_lookup.proofs.needs.push_name.Given as goal

abbrev pub invariant-loop-bit : goal.invariant-loop-bit
invariant-loop-bit l =
    l.list.items
    ≡ l.initial.list.items
    ++ joined_below l.bit (λ b. of_initial l.universe (variant l.name b))
