use Rattle.std.proofs.Common.{◌≡◌, ◌++◌, drop}
use Rattle.draft_plan.specs.Wished.{builds, first_of}
use Rattle.draft_plan.proofs.sketch.first_builds.Given as goal

abbrev pub invariant-loop-instruction : goal.invariant-loop-instruction
invariant-loop-instruction l =
    (l.found.items ++ first_of l.seen.items (builds (drop l.instruction-index l.instructions))
    ≡ first_of l.fn.seen.items (builds l.instructions))
    × (l.seen.items ≡ l.fn.seen.items ++ l.found.items)
