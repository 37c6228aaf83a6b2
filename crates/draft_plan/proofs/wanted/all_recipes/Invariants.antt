use Rattle.std.proofs.Common.{◌≡◌}
use Rattle.std.specs.List.{range_with_len}
use Rattle.draft_plan.proofs.wanted.all_recipes.Given as goal

-- those so far
abbrev pub invariant-loop-recipe : goal.invariant-loop-recipe
invariant-loop-recipe l = l.all.items ≡ range_with_len 0 l.recipe
