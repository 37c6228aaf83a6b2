use Rattle.std.proofs.Common.{◌≡◌, ℕ, ◌<◌, [], get_or}
use Rattle.deb_text.specs.Lists.{lists}
use Rattle.farm_model.specs.Packages.{recipe}
use Rattle.cross_import.proofs.farm_recipes.has_recipes.Given as goal

abbrev pub invariant-loop-at : goal.invariant-loop-at
invariant-loop-at l =
    (k : ℕ) → k < l.at → (recipe l.universe k).name ≡ get_or (lists l.names) k []
