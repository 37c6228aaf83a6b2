use Rattle.std.proofs.lemmas.Result.{err_from_is_err_and}
use Rattle.deb_text.proofs.StepLaws.{traverse-goes, traverse-stops, traverse-ends}
use Rattle.deb_relation.specs.View.{refusal_of}
use Rattle.deb_relation.proofs.words.read_words.Goals as goal

pub returns-in_err-read : goal.returns-in_err-read
returns-in_err-read g c =
    let p = err_from_is_err_and c.from_residual.result c.from_residual.ensures.1 in
    rw (p.1, p.2)
    (traverse-stops (g.R.WordRule.meaning c.args.rule.now) refusal_of _ _ _ _ _ _
    c.in-Some.ensures.word c.in_err-read.ensures c.loop-word.invariant)

pub loop-word-preserved : goal.loop-word-preserved
loop-word-preserved g c =
    rw c.in_ok-push.ensures.items
    (traverse-goes (g.R.WordRule.meaning c.args.rule.now) _ _ _ _ _ _
    c.in-Some.ensures.word c.in_ok-read.ensures c.loop-word.invariant)

pub returns : goal.returns
returns g c =
    traverse-ends (g.R.WordRule.meaning c.args.rule.now) _ _ _ c.in_default.ensures.none
    c.loop-word.invariant
