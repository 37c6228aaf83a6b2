use Rattle.import_farm.specs.Made.{IsOneOf, IsWholeOrAnew}
use Rattle.import_farm.proofs.MadeLaws.{made-more}
use Rattle.import_farm.proofs.packages_text.push_packages.Goals as goal

pub loop-variant-preserved : goal.loop-variant-preserved
loop-variant-preserved c =
    made-more (IsWholeOrAnew (IsOneOf c.args.blocks.now)) c.args.text.now.items
    c.loop-variant.text.items c.push_variant.new.text.items c.loop-variant.invariant
    c.in_ok-push_variant.ensures
