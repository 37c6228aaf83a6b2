use Rattle.std.proofs.Common.{take}
use Rattle.cross_sources.specs.EncodedSource.{IsMadeOf}
use Rattle.cross_sources.specs.Relations.{way_of}
use Rattle.cross_index.specs.Pieces.{AreMade, GetsBehind}
use Rattle.cross_sources.proofs.index.push_paragraphs.Given as goal

abbrev pub invariant-loop-at : goal.invariant-loop-at
invariant-loop-at l =
    GetsBehind (AreMade (IsMadeOf (way_of l.of)) (take l.at l.paragraphs))
    l.initial.made.text.items l.made.text.items
