use Rattle.std.proofs.lemmas.Result.{err_from_is_err_and}
use Rattle.deb_text.proofs.StepLaws.{traverse-goes, traverse-stops, traverse-ends}
use Rattle.deb_relation.specs.Field.{entry_at, relations_at}
use Rattle.deb_relation.specs.View.{refusal_of}
use Rattle.deb_relation.proofs.field.read_entries.Goals as goal

pub returns-in_err-parse : goal.returns-in_err-parse
unfolding relations_at
returns-in_err-parse c =
    let p = err_from_is_err_and c.from_residual.result c.from_residual.ensures.1 in
    rw (p.1, p.2)
    (traverse-stops (entry_at c.args.kind) refusal_of _ _ _ _ _ _
    c.in-Some.ensures.entry c.in_err-parse.ensures c.loop-entry.invariant)

pub loop-entry-preserved : goal.loop-entry-preserved
loop-entry-preserved c =
    rw c.in_ok-push.ensures.items
    (traverse-goes (entry_at c.args.kind) _ _ _ _ _ _
    c.in-Some.ensures.entry c.in_ok-parse.ensures c.loop-entry.invariant)

pub returns : goal.returns
unfolding relations_at
returns c =
    traverse-ends (entry_at c.args.kind) _ _ _ c.in_default.ensures.none c.loop-entry.invariant
