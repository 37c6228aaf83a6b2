use Rattle.std.proofs.Common.{take}
use Rattle.std.specs.List.{flat_map}
use Rattle.debian_index.specs.Index.{paragraphs_in}
use Rattle.cross_sources.specs.EncodedSource.{IsMadeOf}
use Rattle.cross_sources.specs.Relations.{way_of}
use Rattle.cross_index.specs.Pieces.{AreMade, GetsBehind}
use Rattle.cross_sources.proofs.index.push_blocks.Given as goal

abbrev pub invariant-loop-block : goal.invariant-loop-block
invariant-loop-block l =
    GetsBehind (AreMade (IsMadeOf (way_of l.of))
    (flat_map (paragraphs_in l.index) (take l.block-index l.blocks))) l.initial.made.text.items
    l.made.text.items
