use Rattle.std.proofs.Common.{[], ◌++◌, Ok, refl, ap, ◌∙◌}
use Rattle.std.proofs.lemmas.List.{append-nil}
use Rattle.std.proofs.lemmas.Result.{err_from_is_err_and}
use Rattle.deb_relation.specs.Common.{alternative_at, left_for, refusal_of}
use Rattle.deb_relation.proofs.FieldLaws.{each-goes, each-stops, each-ends}
use Rattle.deb_relation.proofs.HoldingLaws.{told-refused, told-some}
use Rattle.deb_profile.specs.Reduction.{atoms_left, reduced_entry}
use Rattle.deb_profile.specs.Restriction.{is_among}
use Rattle.deb_profile.proofs.ReductionLaws.{reduced-left}
use Rattle.deb_profile.proofs.reading.read_kept.Goals as goal

pub returns-in_err-atom : goal.returns-in_err-atom
returns-in_err-atom c =
    let left = left_for (is_among c.args.names.now) (is_among c.args.active.now) in
    let from = c.from_residual-in_err-atom in
    let p = err_from_is_err_and from.result from.ensures.1 in
    let so_far = rw c.in-Some.is at c.loop-left.invariant in
    let read = alternative_at c.args.kind c.next_part.result.0.now in
    rw (p.1, p.2)
    (each-stops (alternative_at c.args.kind) _ _ _ _ _ c.next_part.ensures.parts so_far
    refusal_of _ (told-refused left refusal_of _ read c.in_err-atom.ensures))

pub loop-left-preserved : goal.loop-left-preserved
loop-left-preserved c =
    let names = c.args.names.now in
    let active = c.args.active.now in
    let kept = c.loop-left.kept.items in
    let left = c.in_ok-atom.atom in
    let so_far = rw c.in-Some.is at c.loop-left.invariant in
    let read = told-some (left_for (is_among names) (is_among active))
    (alternative_at c.args.kind c.next_part.result.0.now) left c.in_ok-atom.ensures in
    rw c.in_ok-push_kept.ensures
    (each-goes (alternative_at c.args.kind) _ _ _ _ _
    c.next_part.ensures.parts so_far
    (λ entry. Ok ((kept ++ atoms_left names left) ++ reduced_entry names active entry))
    read.0 read.1.0
    (λ more. ap Ok (reduced-left names active kept read.0 more left read.1.1)))

pub returns : goal.returns
returns c =
    let so_far = rw c.in_default.is at c.loop-left.invariant in
    each-ends (alternative_at c.args.kind) _ [] _ refl so_far ∙ ap Ok (append-nil _)
