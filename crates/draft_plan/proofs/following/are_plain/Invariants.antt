use Rattle.std.proofs.Common.{◌≡◌, drop}
use Rattle.std.specs.List.{list_all}
use Rattle.draft_plan.specs.Follows.{is_plain}
use Rattle.draft_plan.proofs.following.are_plain.Given as goal

abbrev pub invariant-loop-instruction : goal.invariant-loop-instruction
invariant-loop-instruction l =
    list_all is_plain (drop l.instruction-index l.instructions)
    ≡ list_all is_plain l.instructions
