use Rattle.std.proofs.Common.{◌≡◌, ◌++◌, drop}
use Rattle.draft_plan.specs.Follows.{among}
use Rattle.draft_plan.proofs.lists.among.Given as goal

abbrev pub invariant-loop-recipe : goal.invariant-loop-recipe
invariant-loop-recipe l =
    l.kept.items ++ among l.others (drop l.recipe-index l.recipes) ≡ among l.others l.recipes
