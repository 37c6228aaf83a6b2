use Rattle.std.proofs.Common.{◌∙◌, ℕ, List, sym, subst, eqb-true}
use Rattle.std.proofs.lemmas.List.{take_all}
use Rattle.farm_model.specs.Common.{recipe}
use Rattle.rest_farm.specs.declared.fate.WantedRecipe.{WantedRecipe}
use Rattle.rest_farm.specs.Fates.{fate_in, is_built, is_left}
use Rattle.rest_farm.specs.Rest.{IsKept}
use Rattle.rest_farm.proofs.RestLaws.{IsFront, front-more}
use Rattle.rest_farm.proofs.judgement.are_kept.Goals as goal

pub loop-recipe-preserved : goal.loop-recipe-preserved
loop-recipe-preserved c =
    let of = c.args.of in
    let archive = c.args.archive.now in
    let w = c.args.farm.now in
    front-more (λ (r : WantedRecipe). is_left (fate_in of.names archive of.gone.now r))
    (λ (k : ℕ) (r : WantedRecipe). IsKept w (is_built (fate_in of.names archive of.gone.now r)) r
    (recipe w k))
    of.recipes.now c.loop-recipe.recipe-index c.recipe-item.result c.loop-recipe.number
    c.in-Some.next c.loop-recipe-test.true c.recipe-item.is c.loop-recipe.invariant
    c.in-Some.ensures.left c.in-Some.ensures.other

pub returns : goal.returns
returns c = λ same.
    let of = c.args.of in
    let archive = c.args.archive.now in
    let w = c.args.farm.now in
    let front = subst
    (λ (rs : List WantedRecipe).
    IsFront (λ (r : WantedRecipe). is_left (fate_in of.names archive of.gone.now r))
    (λ (k : ℕ) (r : WantedRecipe). IsKept w (is_built (fate_in of.names archive of.gone.now r)) r
    (recipe w k)) rs c.loop-recipe.number)
    (take_all c.loop-recipe.recipe-index of.recipes.now c.loop-recipe-test.false)
    c.loop-recipe.invariant in
    record {
      count = sym c.recipes.ensures
          ∙ eqb-true c.recipes.result c.loop-recipe.number same ∙ front.count;
      each = front.each;
    }
