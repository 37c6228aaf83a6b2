use Rattle.std.proofs.Common.{get_or}
use Rattle.std.proofs.lemmas.List.Elements.{Contains-get_or}
use Rattle.import_farm.specs.Made.{IsBlockIn, IsBlockOf}
use Rattle.import_farm.proofs.MadeLaws.{block-in, gets-more, gets-weaker, no_text}
use Rattle.import_farm.proofs.indexes.add_all.Goals as goal

pub loop-text-preserved : goal.loop-text-preserved
loop-text-preserved g c =
    let Is = IsBlockIn c.args.texts.now in
    let text = get_or c.args.texts.now c.loop-text.text-index no_text in
    let among =
    Contains-get_or c.args.texts.now c.loop-text.text-index no_text c.loop-text-test.true in
    gets-more Is c.args.blocks.now.items c.loop-text.blocks.items c.add_text.new.blocks.items
    c.loop-text.invariant
    (gets-weaker (IsBlockOf text.bytes.now) Is (block-in c.args.texts.now text among)
    c.loop-text.blocks.items c.add_text.new.blocks.items c.in_ok-add_text.ensures)
