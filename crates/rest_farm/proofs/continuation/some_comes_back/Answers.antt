use Rattle.std.proofs.Common.{length, sym, ◌∙◌, arith}
use Rattle.std.specs.List.{list_any}
use Rattle.farm_model.specs.Common.{outputs}
use Rattle.farm_model.proofs.BelowLaws.{some_below-at}
use Rattle.rest_farm.specs.Odds.{is_gone}
use Rattle.rest_farm.proofs.continuation.some_comes_back.Goals as goal

pub returns-then-gives_gone : goal.returns-then-gives_gone
returns-then-gives_gone c =
    sym
    (some_below-at (length c.args.farm.now.recipes)
    (λ r. list_any (is_gone c.args.gone.now c.args.farm.now) (outputs c.args.farm.now r))
    c.loop-recipe.recipe (omega arith) (sym c.gives_gone.ensures ∙ c.if-gives_gone.true))
