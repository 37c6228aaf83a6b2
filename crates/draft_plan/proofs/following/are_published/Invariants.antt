use Rattle.std.proofs.Common.{◌≡◌, None, drop}
use Rattle.draft_plan.specs.Follows.{are_published}
use Rattle.draft_plan.proofs.following.are_published.Given as goal

abbrev pub invariant-loop-instruction : goal.invariant-loop-instruction
invariant-loop-instruction l =
    are_published l.open (drop l.instruction-index l.instructions)
    ≡ are_published None l.instructions
