use Rattle.std.proofs.Common.{◌≡◌, ◌++◌}
use Rattle.farm_model.specs.Packages.{recipe}
use Rattle.farm_lookup.specs.declared.needs.Asker.TheVariants.{Recipe}
use Rattle.farm_lookup.specs.Unmet.{joined_below, of_field}
use Rattle.farm_lookup.proofs.needs.push_recipes.Given as goal

abbrev pub invariant-loop-number : goal.invariant-loop-number
invariant-loop-number l =
    let u = l.universe in
    l.list.items
    ≡ l.initial.list.items ++ joined_below l.number (λ r. of_field u (Recipe r) (recipe u r).needs)
