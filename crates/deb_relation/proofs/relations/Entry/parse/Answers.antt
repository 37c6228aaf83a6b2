use Rattle.std.proofs.lemmas.Result.{err_from_is_err_and}
use Rattle.deb_relation.proofs.AtomLaws.{entry-one}
use Rattle.deb_relation.proofs.relations.Entry.parse.Goals as goal

pub returns-in_err-read_alternative : goal.returns-in_err-read_alternative
returns-in_err-read_alternative c =
    let from = c.from_residual in
    let p = err_from_is_err_and from.result from.ensures.1 in
    rw (p.1, p.2, entry-one c.args.kind c.args.text.now c.in_default.ensures.none)
    c.in_err-read_alternative.ensures

pub returns-in_default : goal.returns-in_default
returns-in_default c =
    rw (entry-one c.args.kind c.args.text.now c.in_default.ensures.none, c.from_alternatives.ensures)
    c.in_ok-read_alternative.ensures
