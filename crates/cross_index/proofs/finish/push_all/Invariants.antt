use Rattle.std.proofs.Common.{take}
use Rattle.cross_index.specs.Finished.{IsFinishedBy}
use Rattle.cross_index.specs.Pieces.{AreMade, GetsBehind}
use Rattle.cross_index.proofs.finish.push_all.Given as goal

abbrev pub invariant-loop-at : goal.invariant-loop-at
invariant-loop-at l =
    GetsBehind (AreMade (IsFinishedBy l.sides l.all) (take l.at l.olds)) l.initial.text.items
    l.text.items
