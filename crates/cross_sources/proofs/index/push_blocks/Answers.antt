use Rattle.std.proofs.Common.{List, get_or, subst, ap, arith}
use Rattle.std.proofs.lemmas.List.{take_all}
use Rattle.std.specs.List.{flat_map}
use Rattle.deb_stanza.specs.Stanza.{Paragraph}
use Rattle.debian_index.specs.Index.{paragraphs_in}
use Rattle.debian_index.specs.declared.blocks.Block.{Block}
use Rattle.cross_sources.specs.EncodedSource.{IsMadeOf}
use Rattle.cross_sources.specs.Relations.{way_of}
use Rattle.cross_index.specs.Pieces.{AreMade, GetsBehind}
use Rattle.cross_index.proofs.PieceLaws.{get_or-any, gets-block, gets-none}
use Rattle.cross_sources.proofs.index.push_blocks.Goals as goal

abbrev blank : Block
blank = record { start = 0; size = 0; number = 0 }

pub loop-block-init : goal.loop-block-init
loop-block-init c =
    gets-none (IsMadeOf (way_of c.args.of)) c.args.made.now.text.items

pub push_block-requires : goal.push_block-requires
push_block-requires c = c.requires c.loop-block.block-index blank c.loop-block-test.true

pub loop-block-preserved : goal.loop-block-preserved
loop-block-preserved c =
    let blocks = c.args.blocks.now in
    let i = c.loop-block.block-index in
    let block = get_or blocks i blank in
    gets-block (IsMadeOf (way_of c.args.of)) (paragraphs_in c.args.index.now)
    blocks i block c.args.made.now.text.items c.loop-block.made.text.items c.push_block.new.made.text.items
    c.loop-block-test.true (get_or-any blocks i blank block c.loop-block-test.true)
    c.loop-block.invariant c.in_ok-push_block.ensures

pub returns : goal.returns
returns c =
    let Is = IsMadeOf (way_of c.args.of) in
    subst (λ (olds : List Paragraph). GetsBehind (AreMade Is olds) c.args.made.now.text.items
    c.loop-block.made.text.items)
    (ap (flat_map (paragraphs_in c.args.index.now))
    (take_all c.loop-block.block-index c.args.blocks.now (omega arith)))
    c.loop-block.invariant
