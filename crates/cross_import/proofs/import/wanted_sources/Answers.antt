use Rattle.std.proofs.Common.{List, map, ap, ◌∙◌, arith}
use Rattle.std.proofs.lemmas.List.{take_all}
use Rattle.cross_wish.specs.Views.{cross_recipe_view}
use Rattle.cross_wish.specs.declared.recipe.CrossRecipe.{CrossRecipe}
use Rattle.cross_import.specs.CrossImport.{asked_for, wanted_as}
use Rattle.cross_import.proofs.WantedLaws.{wanted-more}
use Rattle.cross_import.proofs.import.wanted_sources.Goals as goal

pub loop-recipe-init : goal.loop-recipe-init
loop-recipe-init c = ap (map wanted_as) c.new-wanted.ensures.items

pub loop-recipe-preserved : goal.loop-recipe-preserved
loop-recipe-preserved c =
    ap (map wanted_as) c.in_ok-push.ensures.items
    ∙ wanted-more c.deref-recipe-items.result.now c.loop-recipe.recipe-index
    c.recipe-item.result c.loop-recipe.wanted.items c.in_ok-one.one c.loop-recipe-test.true
    c.recipe-item.is c.in_ok-one.ensures.name c.in_ok-one.ensures.side c.loop-recipe.invariant

pub returns : goal.returns
returns c =
    c.loop-recipe.invariant
    ∙ ap (λ (recipes : List CrossRecipe). map asked_for (map cross_recipe_view recipes))
    (take_all c.loop-recipe.recipe-index c.deref-recipe-items.result.now (omega arith)
    ∙ c.deref-recipe-items.ensures.value)
