use Rattle.std.proofs.Common.{◌≡◌, ◌++◌, false, drop}
use Rattle.plan_reader.specs.Listing.{instruction_lines}
use Rattle.plan_reader.proofs.print.push_lines.Given as goal

abbrev pub invariant-loop-instruction : goal.invariant-loop-instruction
invariant-loop-instruction l =
    l.text.items
    ++ instruction_lines l.universe l.inside (drop l.instruction-index l.instructions)
    ≡ l.fn.text.items ++ instruction_lines l.universe false l.instructions
