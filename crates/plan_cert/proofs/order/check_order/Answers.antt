use Rattle.std.proofs.Common.{◌≡◌, ◌+◌, ◌<◌, List, ℕ, length, take, slice_index, refl, subst, arith}
use Rattle.wait_order.specs.Standing.{IsReached}
use Rattle.plan_cert.specs.Events.{left_by, lane_items, IsStep}
use Rattle.plan_cert.proofs.EventLaws.{broken-here, broken-end}
use Rattle.plan_cert.proofs.order.check_order.Goals as goal

pub returns-then-not-branch : goal.returns-then-not-branch
returns-then-not-branch c =
    let u = c.args.claim.universe.now in
    let p = c.args.claim.plan.now.lanes in
    let order = c.args.order.now in
    let n = c.loop-item.item in
    let l = slice_index order n in
    broken-here u p order c.loop-item.made.items c.loop-item.archive c.step.new.made
    c.step.new.archive n l c.loop-item-test.true refl c.loop-item.invariant.reached
    (subst (IsStep u p l c.loop-item.made.items c.step.new.made c.loop-item.archive
    c.step.new.archive)
    c.if-not-branch.true
    (subst (λ (ms : List ℕ). IsStep u p l ms c.step.new.made c.loop-item.archive c.step.new.archive
    c.in_ok-step.field-0) c.deref_mut.ensures.value c.in_ok-step.ensures))
    (n + 1) refl

pub returns-in-Some : goal.returns-in-Some
returns-in-Some c =
    let u = c.args.claim.universe.now in
    let p = c.args.claim.plan.now.lanes in
    let order = c.args.order.now in
    let l = c.in-Some._lane in
    let end : c.loop-item.item ≡ length order = omega (arith, c.loop-item-test.false) in
    broken-end u p order c.loop-item.made.items c.loop-item.archive l c.in-Some.ensures.some
    (subst (λ (ms : List ℕ). slice_index ms l < length (lane_items u p l)) c.deref-2.ensures.value
    c.in-Some.ensures.left)
    (subst (λ k. IsReached u p (take k order) c.loop-item.archive
    (left_by u p c.loop-item.made.items))
    end c.loop-item.invariant.reached)
    (length order + 1) refl
