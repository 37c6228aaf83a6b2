use Rattle.std.proofs.lemmas.Result.{err_from_is_err_and}
use Rattle.deb_relation.specs.Field.{alternative_at}
use Rattle.deb_relation.specs.View.{refusal_of}
use Rattle.deb_relation.proofs.AtomLaws.{one-read, one-refused}
use Rattle.deb_relation.proofs.field.read_alternative.Goals as goal

pub returns-in_err-alternative : goal.returns-in_err-alternative
returns-in_err-alternative c =
    let p = err_from_is_err_and c.from_residual.result c.from_residual.ensures.1 in
    rw (p.1, p.2)
    (one-refused (alternative_at c.args.kind) c.args.text.now refusal_of _
    c.in_err-alternative.ensures)

pub returns : goal.returns
returns c =
    rw (c.in_ok-push.ensures.items, c.in_ok-alternatives.ensures.items)
    (one-read (alternative_at c.args.kind) c.args.text.now _ c.in_ok-alternative.ensures)
