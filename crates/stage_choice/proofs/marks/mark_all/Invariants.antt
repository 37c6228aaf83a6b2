use Rattle.std.proofs.Common.{ℕ, List, ◌++◌, take}
use Rattle.stage_choice.specs.Marks.{AreMarked}
use Rattle.stage_choice.proofs.marks.mark_all.Given as goal

abbrev pub invariant-loop-number : goal.invariant-loop-number
invariant-loop-number l =
    (list : List ℕ) → AreMarked l.initial.marks.items list
    → AreMarked l.marks.items (list ++ take l.number-index l.numbers)
