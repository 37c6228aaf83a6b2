use Rattle.std.proofs.Common.{ap, sym, ◌∙◌}
use Rattle.std.proofs.lemmas.Result.{IfOk-weaker}
use Rattle.deb_stanza.specs.Stanza.{paragraphs_at}
use Rattle.import_farm.proofs.MadeLaws.{wish-in}
use Rattle.target_import.proofs.call.import_chosen.Goals as goal

pub returns-clause-texts : goal.returns-clause-texts
returns-clause-texts g c =
    let read = sym (ap paragraphs_at c.deref-2.ensures.value) ∙ c.in_ok-paragraphs.ensures in
    IfOk-weaker c.import_wish.result _ _
    (λ judged is. (is.0, wish-in c.args.chosen.now.wish.items _ _ read is.1, is.2))
    c.import_wish.ensures.texts
