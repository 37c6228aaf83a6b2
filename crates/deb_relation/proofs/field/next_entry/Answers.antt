use Rattle.std.proofs.Common.{sym, ◌∙◌, arith}
use Rattle.deb_relation.proofs.FieldLaws.{entries-none, entries-skip, entries-next}
use Rattle.deb_relation.proofs.field.next_entry.Goals as goal

pub returns-then-not-all_in-clause-entry : goal.returns-then-not-all_in-clause-entry
returns-then-not-all_in-clause-entry c =
    let some = sym c.all_in.ensures ∙ c.if-not-all_in.true in
    let next = entries-next c.in-Some.rest.now _ _ c.next_part.ensures.parts some in
    sym c.loop-left.invariant.0 ∙ rw c.in-Some.is next

pub loop-left-preserved : goal.loop-left-preserved
loop-left-preserved c =
    let empty = sym c.all_in.ensures ∙ c.if-not-all_in.false in
    let skip = entries-skip c.in-Some.rest.now _ _ c.next_part.ensures.parts empty in
    let bound = rw c.in-Some.is at c.loop-left.invariant.1 in (
      sym skip ∙ (rw c.in-Some.is at c.loop-left.invariant.0),
      omega (arith, c.next_part.ensures.shorter, bound),
    )

pub returns-clause-none : goal.returns-clause-none
returns-clause-none c = sym c.loop-left.invariant.0 ∙ rw c.in_default.is entries-none
