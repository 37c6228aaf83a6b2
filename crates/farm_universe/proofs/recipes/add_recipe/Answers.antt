use Rattle.std.proofs.Common.{◌≡◌, ◌++◌, ◌∷◌, []}
use Rattle.std.proofs.lemmas.Result.{on_ok_weaker}
use Rattle.farm_universe.specs.FarmView.{land_view, AreNamed}
use Rattle.farm_universe.proofs.RecipeLaws.{AreRecipes-push}
use Rattle.farm_universe.proofs.recipes.add_recipe.Goals as goal

pub returns-clause-list : goal.returns-clause-list
returns-clause-list c =
    on_ok_weaker c.put.result
    (λ (put : (c.put.new.list.recipes.items
    ≡ c.args.list.now.recipes.items ++ c.in_ok-recipe.recipe ∷ [])
    × (AreNamed c.args.list.now.by_name c.args.list.now.recipes.items
    → AreNamed c.put.new.list.by_name c.put.new.list.recipes.items)).
    AreRecipes-push (land_view c.args.land.now) c.args.list.now c.put.new.list
    c.in_ok-recipe.recipe c.requires.list c.in_ok-recipe.ensures.new put.0 c.put.ensures.taken
    (put.1 c.requires.list.named) c.put.ensures.entries)
    c.put.ensures.recipes
