use Rattle.std.proofs.Common.{refl, sym, subst, arith}
use Rattle.known_rows.specs.ByName.{AreMoved}
use Rattle.known_rows.proofs.FirstHits.{IsSoFar, so_far_start, so_far_next, all_looked_at}
use Rattle.known_rows.proofs.Written.{written}
use Rattle.known_rows.proofs.first_hits.first_hits.Goals as goal

pub loop-name-init : goal.loop-name-init
loop-name-init c =
    so_far_start c.args.row.now c.args.known.lanes.now c.in_ok-firsts.firsts.items
    c.skip-name.result
    c.in_ok-firsts.ensures.long c.in_ok-firsts.ensures.ends c.skip-name.ensures.inside
    c.skip-name.ensures.none

pub loop-name-preserved : goal.loop-name-preserved
loop-name-preserved c =
    let row = c.args.row.now in
    let lanes = c.args.known.lanes.now in
    let old = c.loop-name.firsts.items in
    let new = c.look_at_name.new.firsts in
    let next = c.skip-name-in-loop-name.result in
    let moved = c.look_at_name.ensures.moved in
    subst (λ xs. IsSoFar row lanes xs next)
    (sym (written c.loop-name.firsts.len _ new old c.deref_mut.result.now refl
    c.deref_mut.ensures.value c.deref_mut.ensures.len moved.long))
    (so_far_next row lanes old new c.loop-name.name next c.loop-name.invariant
    (subst (λ xs. AreMoved row lanes xs new) c.deref_mut.ensures.value moved)
    c.look_at_name.ensures.early c.skip-name-in-loop-name.ensures.inside
    c.skip-name-in-loop-name.ensures.none)

pub returns : goal.returns
returns c =
    all_looked_at c.args.row.now c.args.known.lanes.now c.args.known.universe.now
    c.loop-name.firsts.items
    c.loop-name.name c.args.known.known c.requires.long
    (omega (arith, c.loop-name-test.false, c.len.ensures)) c.loop-name.invariant
