use Rattle.std.proofs.Common.{◌≡◌, map, take}
use Rattle.cross_wish.specs.Views.{cross_recipe_view}
use Rattle.cross_import.specs.CrossImport.{asked_for, wanted_as}
use Rattle.cross_import.proofs.import.wanted_sources.Given as goal

abbrev pub invariant-loop-recipe : goal.invariant-loop-recipe
invariant-loop-recipe l =
    map wanted_as l.wanted.items
    ≡ map asked_for (map cross_recipe_view (take l.recipe-index l.recipe-items))
