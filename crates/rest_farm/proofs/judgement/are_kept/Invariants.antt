use Rattle.std.proofs.Common.{take}
use Rattle.farm_model.specs.Common.{recipe}
use Rattle.rest_farm.specs.Fates.{fate_in, is_built, is_left}
use Rattle.rest_farm.specs.Rest.{IsKept}
use Rattle.rest_farm.proofs.RestLaws.{IsFront}
use Rattle.rest_farm.proofs.judgement.are_kept.Given as goal

abbrev pub invariant-loop-recipe : goal.invariant-loop-recipe
invariant-loop-recipe l =
    IsFront (λ r. is_left (fate_in l.of.names l.archive l.of.gone.now r))
    (λ k r. IsKept l.farm (is_built (fate_in l.of.names l.archive l.of.gone.now r)) r
    (recipe l.farm k))
    (take l.recipe-index l.of.recipes.now) l.number
