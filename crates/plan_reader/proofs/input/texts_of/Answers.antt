use Rattle.plan_reader.proofs.FarmTextLaws.{cut_thrice}
use Rattle.plan_reader.proofs.input.texts_of.Goals as goal

pub returns : goal.returns
returns c =
    cut_thrice c.args.input.now _ _ _ _ _ _ c.cut_text.ensures.text c.cut_text.ensures.rest
    c.cut_text-2.ensures.text c.cut_text-2.ensures.rest
    c.cut_text-3.ensures.text c.cut_text-3.ensures.rest
