use Rattle.import_farm.specs.Made.{IsOneOf, IsWhole}
use Rattle.import_farm.proofs.MadeLaws.{made-more}
use Rattle.import_farm.proofs.packages_text.push_sources.Goals as goal

pub loop-variant-preserved : goal.loop-variant-preserved
loop-variant-preserved c =
    made-more (IsWhole (IsOneOf c.args.blocks.now)) c.args.text.now.items
    c.loop-variant.text.items c.push_whole.new.text.items c.loop-variant.invariant
    c.in_ok-push_whole.ensures
