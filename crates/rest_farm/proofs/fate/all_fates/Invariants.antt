use Rattle.std.proofs.Common.{◌≡◌, map, take}
use Rattle.rest_farm.specs.Fates.{fate_in}
use Rattle.rest_farm.proofs.fate.all_fates.Given as goal

abbrev pub invariant-loop-recipe : goal.invariant-loop-recipe
invariant-loop-recipe l =
    l.list.items
    ≡ map (fate_in l.names l.archive l.gone) (take l.recipe-index l.recipes)
