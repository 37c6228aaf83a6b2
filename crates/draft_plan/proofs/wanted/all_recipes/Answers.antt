use Rattle.std.proofs.Common.{sym}
use Rattle.draft_plan.proofs.Ranges.{numbers-more}
use Rattle.draft_plan.proofs.wanted.all_recipes.Goals as goal

pub loop-recipe-preserved : goal.loop-recipe-preserved
loop-recipe-preserved c =
    rw (c.in_ok-push.ensures.items, c.loop-recipe.invariant)
    (sym (numbers-more c.loop-recipe.recipe))
