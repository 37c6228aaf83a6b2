use Rattle.std.proofs.Common.{◌≡◌, ◌++◌, drop}
use Rattle.draft_plan.specs.Wished.{builds}
use Rattle.draft_plan.proofs.lists.push_builds.Given as goal

abbrev pub invariant-loop-instruction : goal.invariant-loop-instruction
invariant-loop-instruction l =
    l.recipes.items ++ builds (drop l.instruction-index l.instructions)
    ≡ l.fn.recipes.items ++ builds l.instructions
