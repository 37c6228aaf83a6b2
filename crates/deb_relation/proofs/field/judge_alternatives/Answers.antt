use Rattle.std.proofs.Common.{[], Ok, refl}
use Rattle.std.proofs.lemmas.Result.{err_from_is_err_and}
use Rattle.deb_relation.specs.Field.{alternative_at}
use Rattle.deb_relation.specs.View.{refusal_of}
use Rattle.deb_relation.proofs.FieldLaws.{judged-some, judged-refused, each-goes, each-stops, each-ends}
use Rattle.deb_relation.proofs.field.judge_alternatives.Goals as goal

pub returns-in_err-judge : goal.returns-in_err-judge
returns-in_err-judge c =
    let p = err_from_is_err_and c.from_residual.result c.from_residual.ensures.1 in
    let so_far = rw c.in-Some.is at c.loop-left.invariant in
    let read = alternative_at c.args.kind c.next_part.result.0.now in
    let refused = judged-refused refusal_of _ read c.in_err-judge.ensures in
    rw (p.1, p.2)
    (each-stops (alternative_at c.args.kind) (λ _. Ok tt) _ _ _ _
    c.next_part.ensures.parts so_far refusal_of _ refused)

pub loop-left-preserved : goal.loop-left-preserved
loop-left-preserved c =
    let so_far = rw c.in-Some.is at c.loop-left.invariant in
    let read = alternative_at c.args.kind c.next_part.result.0.now in
    let some = judged-some read c.in_ok-judge.ensures in
    each-goes (alternative_at c.args.kind) (λ _. Ok tt) _ _ _ _
    c.next_part.ensures.parts so_far (λ _. Ok tt) some.0 some.1 (λ _. refl)

pub returns : goal.returns
returns c =
    let so_far = rw c.in_default.is at c.loop-left.invariant in
    each-ends (alternative_at c.args.kind) (λ _. Ok tt) [] _ refl so_far
