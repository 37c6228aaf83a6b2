use Rattle.std.proofs.Common.{[], refl}
use Rattle.std.proofs.lemmas.Result.{err_from_is_err_and}
use Rattle.deb_text.proofs.StepLaws.{traverse-goes, traverse-stops, traverse-ends}
use Rattle.deb_relation.specs.Field.{alternative_at}
use Rattle.deb_relation.specs.View.{refusal_of}
use Rattle.deb_relation.proofs.field.read_alternatives.Goals as goal

pub returns-in_err-parse : goal.returns-in_err-parse
returns-in_err-parse c =
    let p = err_from_is_err_and c.from_residual-in_err-parse.result c.from_residual-in_err-parse.ensures.1 in
    let so_far = rw c.in-Some.is at c.loop-left.invariant in
    rw (p.1, p.2)
    (traverse-stops (alternative_at c.args.kind) refusal_of _ _ _ _ _ _
    c.next_part.ensures.parts c.in_err-parse.ensures so_far)

pub loop-left-preserved : goal.loop-left-preserved
loop-left-preserved c =
    let so_far = rw c.in-Some.is at c.loop-left.invariant in
    rw c.in_ok-push.ensures.items
    (traverse-goes (alternative_at c.args.kind) _ _ _ _ _ _
    c.next_part.ensures.parts c.in_ok-parse.ensures so_far)

pub returns : goal.returns
returns c =
    let so_far = rw c.in_default.is at c.loop-left.invariant in
    traverse-ends (alternative_at c.args.kind) _ [] _ refl so_far
