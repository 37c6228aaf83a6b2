use Rattle.std.proofs.Common.{◌&&◌, Ok, ap, ◌∙◌}
use Rattle.std.proofs.Math.Bool.{and-true}
use Rattle.std.proofs.lemmas.Result.{err_from_is_err_and}
use Rattle.deb_relation.specs.Holding.{item_holds, list_holds}
use Rattle.deb_relation.specs.Restrictions.{item_at}
use Rattle.deb_relation.specs.View.{refusal_of}
use Rattle.deb_relation.proofs.FieldLaws.{each-goes, each-stops, each-ends}
use Rattle.deb_relation.proofs.HoldingLaws.{all-known, all-open}
use Rattle.deb_relation.proofs.holding.all_hold.Goals as goal

pub returns-in_err-profile : goal.returns-in_err-profile
returns-in_err-profile g c =
    let is_active = g.H.Host.is_active c.args.host.now in
    let all = c.loop-word.all in
    let p = err_from_is_err_and c.from_residual.result c.from_residual.ensures.1 in
    rw (p.1, p.2)
    (each-stops item_at (λ items. Ok (all && list_holds is_active items)) _ _ _ _
    c.in-Some.ensures.word c.loop-word.invariant refusal_of _ c.in_err-profile.ensures)

pub loop-word-preserved-then-all : goal.loop-word-preserved-then-all
loop-word-preserved-then-all g c =
    let is_active = g.H.Host.is_active c.args.host.now in
    let all = c.loop-word.all in
    let holds = c.item_holds-holds.result in
    each-goes item_at (λ items. Ok (all && list_holds is_active items)) _ _ _ _
    c.in-Some.ensures.word c.loop-word.invariant
    (λ items. Ok (holds && list_holds is_active items)) _ c.in_ok-profile.ensures
    (λ items. ap Ok
    (all-open (item_holds is_active) all _ items holds c.if-all.true c.item_holds-holds.ensures))

pub loop-word-preserved : goal.loop-word-preserved
loop-word-preserved g c =
    let is_active = g.H.Host.is_active c.args.host.now in
    let all = c.loop-word.all in
    each-goes item_at (λ items. Ok (all && list_holds is_active items)) _ _ _ _
    c.in-Some.ensures.word c.loop-word.invariant
    (λ items. Ok (all && list_holds is_active items)) _ c.in_ok-profile.ensures
    (λ items. ap Ok (all-known (item_holds is_active) all _ items c.if-all.false))

pub returns : goal.returns
returns g c =
    let is_active = g.H.Host.is_active c.args.host.now in
    each-ends item_at (λ items. Ok (c.loop-word.all && list_holds is_active items)) _ _
    c.in_default.ensures.none c.loop-word.invariant
    ∙ ap Ok (and-true c.loop-word.all)
