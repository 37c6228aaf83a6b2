use Rattle.std.proofs.Common.{◌≡◌, length, refl, sym, ap, subst, ◌∙◌}
use Rattle.wait_order.specs.Standing.{AreStanding, IsReached, left_of}
use Rattle.wait_order.proofs.Ends.{start_reached, settled}
use Rattle.known_rows.proofs.Written.{written}
use Rattle.wait_order.proofs.rounds.settle.Goals as goal

pub loop-order-init : goal.loop-order-init
loop-order-init c =
    let u = c.args.universe.now in
    let p = c.args.plan.now.lanes in
    record {
      standing = c.in_ok-standings.ensures.standing;
      long = c.in_ok-archive.ensures.long;
      rows = c.in_ok-rows.ensures;
      reached = subst
          (λ os. IsReached u p os c.in_ok-archive.archive
          (left_of u p c.in_ok-standings.standings.items))
          (sym c.new-order.ensures.items)
          (start_reached u p c.in_ok-archive.archive c.in_ok-standings.standings.items
          c.in_ok-standings.ensures.at_start c.in_ok-archive.ensures);
    }

pub returns-clause-standing : goal.returns-clause-standing
returns-clause-standing c =
    let p = c.args.plan.now.lanes in
    let round = c.in_ok-round.ensures.round in
    let old : length c.deref_mut.result.now ≡ length p = ap length c.deref_mut.ensures.value
    ∙ c.loop-order.invariant.standing.long in
    let same = written c.loop-order.standings.len _ c.round.new.ats c.loop-order.standings.items
    c.deref_mut.result.now refl c.deref_mut.ensures.value c.deref_mut.ensures.len
    (round.standing.long ∙ sym old) in
    subst (AreStanding c.args.universe.now p) (sym same) round.standing

pub returns-clause-settled : goal.returns-clause-settled
returns-clause-settled c =
    let u = c.args.universe.now in
    let p = c.args.plan.now.lanes in
    let round = c.in_ok-round.ensures.round in
    let reached = round.reached (subst
    (λ ats. IsReached u p c.loop-order.order.items c.loop-order.archive (left_of u p ats))
    (sym c.deref_mut.ensures.value) c.loop-order.invariant.reached) in
    let old : length c.deref_mut.result.now ≡ length p = ap length c.deref_mut.ensures.value
    ∙ c.loop-order.invariant.standing.long in
    let same = written c.loop-order.standings.len _ c.round.new.ats c.loop-order.standings.items
    c.deref_mut.result.now refl c.deref_mut.ensures.value c.deref_mut.ensures.len
    (round.standing.long ∙ sym old) in
    settled u p c.round.new.order.items c.round.new.archive c.round.new.ats _ reached
    (round.held c.if-branch.false) same
