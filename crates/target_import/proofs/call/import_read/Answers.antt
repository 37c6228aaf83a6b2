use Rattle.std.proofs.Common.{◌++◌}
use Rattle.import_farm.specs.Made.{IsBlockIn, IsOneOf}
use Rattle.import_farm.proofs.MadeLaws.{one-of, texts-weaker}
use Rattle.target_import.proofs.call.import_read.Goals as goal

pub returns-clause-texts : goal.returns-clause-texts
returns-clause-texts g c =
    let packages = c.in_ok-packages.packages.blocks.items in
    let sources = c.in_ok-sources.sources.blocks.items in
    let Is = IsBlockIn (c.args.inputs.packages.now ++ c.args.inputs.archive.now) in
    let IsSource = IsBlockIn c.args.inputs.sources.now in
    let is = c.in_ok-made.ensures.texts in (
      is.0,
      is.1,
      texts-weaker (IsOneOf packages) (IsOneOf sources) Is IsSource
          (one-of Is packages c.in_ok-packages.ensures)
          (one-of IsSource sources c.in_ok-sources.ensures) is.0
          c.in_ok-made.made.judged.texts c.in_ok-made.made.judged.unmet.items is.2,
    )
