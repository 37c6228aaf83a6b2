use Rattle.std.proofs.Common.{◌≡◌, ◌+◌, suc, length, sym, ap, subst, ◌∙◌, arith}
use Rattle.plan_model.specs.Plan.{lane}
use Rattle.known_rows.specs.declared.marks.LastPoints.{LastPoints}
use Rattle.known_rows.specs.Marks.{ArePast}
use Rattle.known_rows.proofs.ReadAt.{read_at}
use Rattle.known_rows.proofs.MarkLaws.{passed, outputs_with_points-long}
use Rattle.known_rows.proofs.PastLaws.{past_next}
use Rattle.known_rows.proofs.marks.walk_lane.Goals as goal

pub loop-place-preserved : goal.loop-place-preserved
loop-place-preserved c =
    let u = c.args.universe.now in
    let p = c.args.plan.now.lanes in
    let l = c.args.number in
    let i = c.loop-place.place in
    let xs = c.instructions-instructions.ensures ∙ ap (λ of. of.instructions) c.lane.ensures in
    let at =
    read_at p l c.instructions-instructions.result.now i c.index-instructions-place.result xs
    c.loop-place-test.true c.index-instructions-place.is in
    let so_far = c.loop-place.invariant.passed in
    let long = outputs_with_points-long u p l i
    (omega (arith, c.loop-place-test.true, ap length xs)) in
    record {
      passed = passed u p l i c.index-instructions-place.result c.loop-place.marks.items
          c.pass.new.marks.items c.loop-place.outputs.items c.pass.new.outputs.items
          c.loop-place.last
          c.pass.new.last at so_far c.in_ok-pass.ensures.last
          c.in_ok-pass.ensures.marks c.in_ok-pass.ensures.outputs;
      past = subst (ArePast u p l (i + 1)) (sym c.in_ok-push.ensures.items)
          (past_next u p l i c.loop-place.past.items c.len.result c.loop-place.last.here
          c.loop-place.invariant.past
          (omega (arith, c.len.ensures, ap length so_far.outputs_are, long))
          (ap (λ (o : LastPoints). o.here) so_far.last_is));
    }

pub returns-clause-past : goal.returns-clause-past
returns-clause-past c =
    let u = c.args.universe.now in
    let p = c.args.plan.now.lanes in
    let l = c.args.number in
    let n = length (lane p l).instructions in
    let i = c.loop-place.place in
    let xs = c.instructions-instructions.ensures ∙ ap (λ of. of.instructions) c.lane.ensures in
    let end : i ≡ n = omega
    (arith, c.loop-place-test.false, c.loop-place.auto.place-end, ap length xs) in
    let so_far = c.loop-place.invariant.passed in
    let long = outputs_with_points-long u p l i (omega (arith, end)) in
    subst (λ k. ArePast u p l k c.push-2.new.self.items)
    (let e : i + 1 ≡ suc n = omega (arith, end) in e)
    (subst (ArePast u p l (i + 1)) (sym c.in_ok-push-2.ensures.items)
    (past_next u p l i c.loop-place.past.items c.len-2.result c.loop-place.last.here
    c.loop-place.invariant.past
    (omega (arith, c.len-2.ensures, ap length so_far.outputs_are, long))
    (ap (λ (o : LastPoints). o.here) so_far.last_is)))
