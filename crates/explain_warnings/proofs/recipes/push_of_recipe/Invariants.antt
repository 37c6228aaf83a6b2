use Rattle.std.proofs.Common.{length}
use Rattle.explain_warnings.proofs.recipes.push_of_recipe.Given as goal

abbrev pub decreases-loop-given : goal.decreases-loop-given
decreases-loop-given l = length l.outputs
