use Rattle.std.proofs.Common.{[]}
use Rattle.stage_choice.specs.Marks.{AreMarked}
use Rattle.stage_choice.proofs.marks.no_marks.Given as goal

abbrev pub invariant-loop : goal.invariant-loop
invariant-loop l = AreMarked l.marks.items []
