use Rattle.std.proofs.Common.{◌+◌, ◌<◌, length, get_or, slice_set, sym, subst, ◌∙◌, arith}
use Rattle.std.proofs.lemmas.List.{get_or_default}
use Rattle.wait_order.specs.Standing.{no_standing, IsRound}
use Rattle.wait_order.proofs.Turns.{round_moved, round_quiet}
use Rattle.wait_order.proofs.rounds.round.Goals.{then-branch, else-branch}
use Rattle.wait_order.proofs.rounds.round.Goals as goal

pub loop-number-preserved : goal.loop-number-preserved
loop-number-preserved c =
    let u = c.args.course.universe.now in
    let p = c.args.course.plan.now.lanes in
    let n = c.loop-number.number in
    let lt : n < length p = omega
    (arith, c.loop-number-test.true, c.lanes-number-end.ensures.lanes) in
    let long = c.loop-number.invariant.0.standing.long in
    let at = get_or c.loop-number.ats n no_standing in
    let at_is =
    get_or_default c.loop-number.ats n no_standing at (omega (arith, lt, long)) in (
      elim c.if-branch.branch [
        | then-branch w ↦
            subst
            (λ m. IsRound u p c.args.ats.now (slice_set c.loop-number.ats n c.advance.new.at)
            c.args.order.now.items c.args.archive.now c.advance.new.order.items
            c.advance.new.archive (n + 1) m) (sym w.moved-is)
            (round_moved u p c.args.ats.now c.loop-number.ats c.args.order.now.items
            c.args.archive.now c.loop-number.order.items c.loop-number.archive n
            c.loop-number.moved c.loop-number.invariant.0 lt at
            c.advance.new.at at_is c.advance.new.order.items
            c.advance.new.archive c.in_ok-advance.field-0 c.in_ok-advance.ensures.advance
            w.if-branch.true)
        | else-branch w ↦
            subst
            (λ m. IsRound u p c.args.ats.now (slice_set c.loop-number.ats n c.advance.new.at)
            c.args.order.now.items c.args.archive.now c.advance.new.order.items
            c.advance.new.archive (n + 1) m) (sym w.moved-is)
            (round_quiet u p c.args.ats.now c.loop-number.ats c.args.order.now.items
            c.args.archive.now c.loop-number.order.items c.loop-number.archive n
            c.loop-number.moved c.loop-number.invariant.0 lt at
            c.advance.new.at at_is c.advance.new.order.items
            c.advance.new.archive c.in_ok-advance.field-0 c.in_ok-advance.ensures.advance
            w.if-branch.false)
      ],
      c.advance.ensures.rows ∙ c.loop-number.invariant.1,
    )
