use Rattle.std.proofs.Common.{◌≡◌, ◌++◌, drop}
use Rattle.draft_plan.specs.Follows.{besides}
use Rattle.draft_plan.proofs.lists.besides.Given as goal

abbrev pub invariant-loop-recipe : goal.invariant-loop-recipe
invariant-loop-recipe l =
    l.kept.items ++ besides l.others (drop l.recipe-index l.recipes) ≡ besides l.others l.recipes
