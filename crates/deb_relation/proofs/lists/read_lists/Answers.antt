use Rattle.std.proofs.Common.{◌∙◌}
use Rattle.std.proofs.lemmas.Result.{err_from_is_err_and}
use Rattle.deb_relation.specs.View.{refusal_of}
use Rattle.deb_relation.proofs.ListLaws.{lists-last, lists-more, list-goes, list-stops, list-fails, list-ends}
use Rattle.deb_relation.proofs.lists.read_lists.Goals as goal

pub returns-in_err-read_list : goal.returns-in_err-read_list
returns-in_err-read_list c =
    let p = err_from_is_err_and c.from_residual.result c.from_residual.ensures.1 in
    let here = c.in-Some.ensures in
    let cut = lists-more c.loop-list.rest.now _ _ here.found here.before here.after in
    rw (p.1, p.2)
    (list-stops refusal_of _ _ _ _ _ _ cut c.in_err-read_list.ensures c.loop-list.invariant)

pub loop-list-preserved : goal.loop-list-preserved
loop-list-preserved c =
    let here = c.in-Some.ensures in
    let cut = lists-more c.loop-list.rest.now _ _ here.found here.before here.after in
    rw c.in_ok-push.ensures.items
    (list-goes _ _ _ _ _ _ cut c.in_ok-read_list.ensures c.loop-list.invariant)

pub returns-in_err-check_end : goal.returns-in_err-check_end
returns-in_err-check_end c =
    let from = c.from_residual-in_err-check_end in
    let p = err_from_is_err_and from.result from.ensures.1 in
    let end = lists-last c.loop-list.rest.now c.in_default.ensures.none in
    rw (p.1, p.2)
    (list-fails refusal_of _ _ _ _ (rw (← end) at c.in_err-check_end.ensures) c.loop-list.invariant)

pub returns : goal.returns
returns c =
    let end = lists-last c.loop-list.rest.now c.in_default.ensures.none in
    list-ends _ _ _ (end ∙ c.in_ok-check_end.ensures) c.loop-list.invariant
