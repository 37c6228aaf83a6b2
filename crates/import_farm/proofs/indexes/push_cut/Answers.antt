use Rattle.std.proofs.Common.{get_or}
use Rattle.std.proofs.lemmas.List.Elements.{Contains-get_or}
use Rattle.import_farm.specs.Made.{IsCutOf}
use Rattle.import_farm.proofs.MadeLaws.{blank, gets-more, gets-one}
use Rattle.import_farm.proofs.indexes.push_cut.Goals as goal

pub bytes-requires : goal.bytes-requires
bytes-requires c = c.requires c.loop-block.block-index blank c.loop-block-test.true

pub loop-block-preserved : goal.loop-block-preserved
loop-block-preserved c =
    let Is = IsCutOf c.args.text.now c.args.cut.now in
    gets-more Is c.args.blocks.now.items c.loop-block.blocks.items c.push.new.self.items
    c.loop-block.invariant
    (gets-one Is c.loop-block.blocks.items c.push.new.self.items c.bytes.result
    c.in_ok-push.ensures.items (
      get_or c.args.cut.now c.loop-block.block-index blank,
      Contains-get_or c.args.cut.now c.loop-block.block-index blank c.loop-block-test.true,
      c.bytes.ensures,
    ))
