use Rattle.std.proofs.lemmas.Result.{err_from_is_err_and}
use Rattle.deb_relation.specs.Field.{alternative_at}
use Rattle.deb_relation.specs.View.{refusal_of}
use Rattle.deb_relation.proofs.AtomLaws.{one-judged, one-judged_bad}
use Rattle.deb_relation.proofs.FieldLaws.{judged-some, judged-refused}
use Rattle.deb_relation.proofs.field.judge_alternative.Goals as goal

pub returns-in_err-judge : goal.returns-in_err-judge
returns-in_err-judge c =
    let p = err_from_is_err_and c.from_residual.result c.from_residual.ensures.1 in
    let read = alternative_at c.args.kind c.args.text.now in
    rw (p.1, p.2)
    (one-judged_bad (alternative_at c.args.kind) c.args.text.now refusal_of _
    (judged-refused refusal_of _ read c.in_err-judge.ensures))

pub returns : goal.returns
returns c =
    let some = judged-some (alternative_at c.args.kind c.args.text.now) c.in_ok-judge.ensures in
    one-judged (alternative_at c.args.kind) c.args.text.now some.0 some.1
