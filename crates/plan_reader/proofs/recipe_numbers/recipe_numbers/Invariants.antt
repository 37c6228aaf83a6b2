use Rattle.std.proofs.Common.{take}
use Rattle.plan_reader.specs.Drafts.{recipe_names}
use Rattle.plan_reader.specs.RecipeNumbers.{AreFirstPlaces}
use Rattle.plan_reader.proofs.recipe_numbers.recipe_numbers.Given as goal

abbrev pub invariant-loop-recipe : goal.invariant-loop-recipe
invariant-loop-recipe l = AreFirstPlaces (take l.recipe (recipe_names l.universe)) l.numbers.entries
