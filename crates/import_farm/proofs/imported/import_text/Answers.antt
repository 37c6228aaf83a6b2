use Rattle.import_farm.proofs.MadeLaws.{wish-in}
use Rattle.import_farm.proofs.imported.import_text.Goals as goal

pub returns : goal.returns
returns g c =
    let is = c.in_ok-judged.ensures.texts in (
      (is.0, wish-in c.args.inputs.wish.now _ _ c.in_ok-paragraphs.ensures is.1, is.2),
      c.in_ok-judged.ensures.noted,
    )
