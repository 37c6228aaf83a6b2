use Rattle.std.proofs.Common.{◌++◌}
use Rattle.import_wish.specs.Wish.{wish_view}
use Rattle.import_farm.specs.Made.{IsBlockIn, IsOneOf}
use Rattle.import_farm.proofs.MadeLaws.{one-of, texts-weaker}
use Rattle.import_farm.proofs.imported.import_wished.Goals as goal

pub returns-clause-texts : goal.returns-clause-texts
returns-clause-texts g c =
    let packages = c.in_ok-packages.packages.blocks.items in
    let sources = c.in_ok-sources.sources.blocks.items in
    let Is = IsBlockIn (c.args.inputs.packages.now ++ c.args.inputs.archive.now) in
    let IsSource = IsBlockIn c.args.inputs.sources.now in
    texts-weaker (IsOneOf packages) (IsOneOf sources) Is IsSource
    (one-of Is packages c.in_ok-packages.ensures) (one-of IsSource sources c.in_ok-sources.ensures)
    (wish_view c.args.wish.wish.now) c.in_ok-judged.judged.texts
    c.in_ok-judged.judged.unmet.items c.in_ok-judged.ensures.texts
