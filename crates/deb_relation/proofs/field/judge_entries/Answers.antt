use Rattle.std.proofs.Common.{Ok, refl}
use Rattle.std.proofs.lemmas.Result.{err_from_is_err_and}
use Rattle.deb_relation.specs.Field.{entry_at}
use Rattle.deb_relation.specs.View.{refusal_of}
use Rattle.deb_relation.proofs.FieldLaws.{judged-some, judged-refused, each-goes, each-stops, each-ends}
use Rattle.deb_relation.proofs.field.judge_entries.Goals as goal

pub returns-in_err-judge : goal.returns-in_err-judge
returns-in_err-judge c =
    let p = err_from_is_err_and c.from_residual.result c.from_residual.ensures.1 in
    let read = entry_at c.args.kind c.in-Some.entry.now in
    let refused = judged-refused refusal_of _ read c.in_err-judge.ensures in
    rw (p.1, p.2)
    (each-stops (entry_at c.args.kind) (λ _. Ok tt) _ _ _ _
    c.in-Some.ensures.entry c.loop-entry.invariant refusal_of _ refused)

pub loop-entry-preserved : goal.loop-entry-preserved
loop-entry-preserved c =
    let some = judged-some (entry_at c.args.kind c.in-Some.entry.now) c.in_ok-judge.ensures in
    each-goes (entry_at c.args.kind) (λ _. Ok tt) _ _ _ _
    c.in-Some.ensures.entry c.loop-entry.invariant (λ _. Ok tt) some.0 some.1 (λ _. refl)

pub returns : goal.returns
returns c =
    each-ends (entry_at c.args.kind) (λ _. Ok tt) _ _
    c.in_default.ensures.none c.loop-entry.invariant
