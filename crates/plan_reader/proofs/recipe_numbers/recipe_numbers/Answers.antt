use Rattle.std.proofs.Common.{◌<◌, [], length, take, arith}
use Rattle.std.proofs.lemmas.List.{length-map, length-take, take_more}
use Rattle.farm_model.specs.Universe.{Recipe}
use Rattle.plan_reader.specs.Drafts.{recipe_names}
use Rattle.plan_reader.proofs.Places.{recipe-name}
use Rattle.plan_reader.proofs.recipe_numbers.recipe_numbers.Goals as goal

pub loop-recipe-preserved : goal.loop-recipe-preserved
loop-recipe-preserved c =
    let u = c.args.universe.now in
    let names = recipe_names u in
    let i = c.loop-recipe.recipe in
    let lt : i < length names = omega (arith, length-map u.recipes (λ (r : Recipe). r.name)) in
    let put = c.in_ok-put_name.ensures (take i names) (omega (arith, length-take i names, lt))
    c.loop-recipe.invariant in
    rw (take_more names i [] lt, recipe-name u i, ← c.recipe.ensures, ← c.name.ensures) put
