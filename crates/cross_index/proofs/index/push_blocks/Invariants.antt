use Rattle.std.proofs.Common.{take}
use Rattle.std.specs.List.{flat_map}
use Rattle.debian_index.specs.Index.{paragraphs_in}
use Rattle.cross_index.specs.EncodedIndex.{IsEncodedBy}
use Rattle.cross_index.specs.Pieces.{AreMade, GetsBehind}
use Rattle.cross_index.proofs.index.push_blocks.Given as goal

abbrev pub invariant-loop-block : goal.invariant-loop-block
invariant-loop-block l =
    GetsBehind (AreMade (IsEncodedBy l.sides l.is_archive)
    (flat_map (paragraphs_in l.index) (take l.block-index l.blocks))) l.initial.text.items
    l.text.items
