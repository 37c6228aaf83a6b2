use Rattle.std.proofs.Common.{◌≡◌, false}
use Rattle.std.specs.List.{list_any}
use Rattle.farm_model.specs.Common.{outputs, some_below}
use Rattle.rest_farm.specs.Odds.{is_gone}
use Rattle.rest_farm.proofs.continuation.some_comes_back.Given as goal

abbrev pub invariant-loop-recipe : goal.invariant-loop-recipe
invariant-loop-recipe l =
    some_below l.recipe (λ r. list_any (is_gone l.gone l.farm) (outputs l.farm r)) ≡ false
