use Rattle.std.proofs.Common.{take}
use Rattle.cross_index.specs.EncodedIndex.{IsEncodedBy}
use Rattle.cross_index.specs.Pieces.{AreMade, GetsBehind}
use Rattle.cross_index.proofs.index.push_paragraphs.Given as goal

abbrev pub invariant-loop-at : goal.invariant-loop-at
invariant-loop-at l =
    GetsBehind (AreMade (IsEncodedBy l.sides l.is_archive) (take l.at l.paragraphs))
    l.initial.text.items l.text.items
