use Rattle.std.proofs.Common.{false, Ok, ap, ◌∙◌}
use Rattle.std.proofs.lemmas.Result.{err_from_is_err_and}
use Rattle.deb_text.specs.Common.{is_blank, behind}
use Rattle.deb_relation.specs.Holding.{list_holds}
use Rattle.deb_relation.specs.Restrictions.{list_in}
use Rattle.deb_relation.specs.View.{refusal_of}
use Rattle.deb_relation.proofs.ListLaws.{lists-last, lists-more}
use Rattle.deb_relation.proofs.HoldingLaws.{held, held-known, held-open, held-some, held-none, told-some, told-refused, told-goes, told-stops, told-fails, told-ends}
use Rattle.deb_relation.proofs.holding.judge_lists.Goals as goal

pub returns-in_err-holds : goal.returns-in_err-holds
returns-in_err-holds g c =
    let is_active = g.H.Host.is_active c.args.host.now in
    let here = c.in-Some.ensures in
    let cut = lists-more c.loop-list.rest.now _ _ here.found here.before here.after in
    let p = err_from_is_err_and c.from_residual.result c.from_residual.ensures.1 in
    let list = list_in (behind is_blank c.in-Some.list.now) in
    rw (p.1, p.2)
    (told-stops (held is_active c.loop-list.none c.loop-list.some) list _ _ _ cut
    c.loop-list.invariant refusal_of _
    (told-refused (list_holds is_active) refusal_of _ list c.in_err-holds.ensures))

pub loop-list-preserved-then-some : goal.loop-list-preserved-then-some
loop-list-preserved-then-some g c =
    let is_active = g.H.Host.is_active c.args.host.now in
    let here = c.in-Some.ensures in
    let cut = lists-more c.loop-list.rest.now _ _ here.found here.before here.after in
    let none = c.loop-list.none in
    let some = c.loop-list.some in
    let list = list_in (behind is_blank c.in-Some.list.now) in
    let read = told-some (list_holds is_active) list _ c.in_ok-holds.ensures in
    told-goes (held is_active none some) list _ _ _ cut c.loop-list.invariant
    (held is_active false some) read.0 read.1.0
    (λ lists. held-known is_active none some read.0 lists c.if-some.true)

pub loop-list-preserved : goal.loop-list-preserved
loop-list-preserved g c =
    let is_active = g.H.Host.is_active c.args.host.now in
    let here = c.in-Some.ensures in
    let cut = lists-more c.loop-list.rest.now _ _ here.found here.before here.after in
    let none = c.loop-list.none in
    let some = c.loop-list.some in
    let holds = c.in_ok-holds.holds in
    let list = list_in (behind is_blank c.in-Some.list.now) in
    let read = told-some (list_holds is_active) list holds c.in_ok-holds.ensures in
    told-goes (held is_active none some) list _ _ _ cut c.loop-list.invariant
    (held is_active false holds) read.0 read.1.0
    (λ lists. held-open is_active none some read.0 lists holds c.if-some.false read.1.1)

pub returns-in_err-check_end : goal.returns-in_err-check_end
returns-in_err-check_end g c =
    let is_active = g.H.Host.is_active c.args.host.now in
    let from = c.from_residual-in_err-check_end in
    let p = err_from_is_err_and from.result from.ensures.1 in
    let end = lists-last c.loop-list.rest.now c.in_default.ensures.none in
    rw (p.1, p.2)
    (told-fails (held is_active c.loop-list.none c.loop-list.some) _ _ c.loop-list.invariant
    refusal_of _ (rw (← end) at c.in_err-check_end.ensures))

pub returns-then-some-2 : goal.returns-then-some-2
returns-then-some-2 g c =
    let is_active = g.H.Host.is_active c.args.host.now in
    let none = c.loop-list.none in
    let some = c.loop-list.some in
    let end = lists-last c.loop-list.rest.now c.in_default.ensures.none in
    told-ends (held is_active none some) _ _ c.loop-list.invariant
    (end ∙ c.in_ok-check_end.ensures)
    ∙ ap Ok (held-some is_active none some c.if-some-2.true)

pub returns-else-some-2 : goal.returns-else-some-2
returns-else-some-2 g c =
    let is_active = g.H.Host.is_active c.args.host.now in
    let none = c.loop-list.none in
    let some = c.loop-list.some in
    let end = lists-last c.loop-list.rest.now c.in_default.ensures.none in
    told-ends (held is_active none some) _ _ c.loop-list.invariant
    (end ∙ c.in_ok-check_end.ensures)
    ∙ ap Ok (held-none is_active none some c.if-some-2.false)
