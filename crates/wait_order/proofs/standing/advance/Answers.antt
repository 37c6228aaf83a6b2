use Rattle.std.proofs.Common.{◌≡◌, Option, Some, suc, ◌+◌, ◌≤◌, length, nat_lt, refl, ap, subst, ◌∙◌, arith}
use Rattle.plan_model.specs.Plan.{lane}
use Rattle.plan_model.specs.declared.instructions.Instruction.{Instruction}
use Rattle.wait_order.specs.Standing.{Holds, Leads, IsAdvance}
use Rattle.wait_order.proofs.Leading.{leads_more, standing_at, advance_done, held_past}
use Rattle.known_rows.proofs.ReadAt.{read_at}
use Rattle.wait_order.proofs.standing.advance.Goals as goal

pub loop-place-preserved : goal.loop-place-preserved
loop-place-preserved c =
    let u = c.args.course.universe.now in
    let p = c.args.course.plan.now.lanes in
    let l = c.args.number in
    let i = c.loop-place.place in
    let xs = c.instructions-instructions.ensures ∙ ap (λ of. of.instructions) c.lane.ensures in
    let at = read_at p l c.instructions-instructions.result.now i c.index-instructions-place.result
    xs
    c.loop-place-test.true c.index-instructions-place.is in
    let below : i + 1 ≤ length (lane p l).instructions =
    omega (arith, c.loop-place-test.true, ap length xs) in
    record {
      standing = standing_at u p l (i + 1) below;
      place = refl;
      rows = c.make.ensures.rows ∙ c.loop-place.invariant.rows;
      long = c.in_ok-made.ensures.made.long;
      leads = subst
          (λ k. Leads u p l c.args.at.now.place k c.args.order.now.items c.args.archive.now
          c.make.new.order.items c.make.new.archive) (let e : suc i ≡ i + 1 = omega arith in e)
          (leads_more u p l c.args.at.now.place i c.index-instructions-place.result
          c.args.order.now.items c.args.archive.now c.loop-place.order.items c.loop-place.archive
          c.make.new.order.items c.make.new.archive c.requires.lane at c.loop-place.invariant.leads
          (c.in_ok-made.ensures.made.makes c.if-not-made.false));
      same = λ e. absurd (omega (arith, e, c.loop-place.auto.place));
    }

pub returns-clause-advance : goal.returns-clause-advance
returns-clause-advance c =
    let u = c.args.course.universe.now in
    let p = c.args.course.plan.now.lanes in
    let l = c.args.number in
    let i = c.loop-place.place in
    let xs = c.instructions-instructions.ensures ∙ ap (λ of. of.instructions) c.lane.ensures in
    let past : length (lane p l).instructions ≤ i =
    omega (arith, c.loop-place-test.false, ap length xs) in
    let end : i ≡ length c.instructions-instructions.result.now =
    omega (
      arith,
      past,
      ap length xs,
      c.loop-place.invariant.standing.within,
      c.loop-place.invariant.place,
    ) in
    subst
    (λ k. IsAdvance u p l c.args.at.now c.loop-place.at c.args.order.now.items c.args.archive.now
    c.loop-place.order.items c.loop-place.archive (nat_lt c.args.at.now.place k)) end
    (advance_done u p l c.args.at.now c.loop-place.at c.args.order.now.items c.args.archive.now
    c.loop-place.order.items c.loop-place.archive i c.loop-place.invariant.standing
    c.loop-place.invariant.place c.loop-place.invariant.long c.loop-place.auto.place
    c.loop-place.invariant.leads c.loop-place.invariant.same
    (held_past u p l i c.loop-place.archive past))

some_same : (x y : Instruction) (o : Option Instruction) → o ≡ Some x → o ≡ Some y → x ≡ y
some_same x y o is at = cc

pub returns-then-not-made-clause-advance : goal.returns-then-not-made-clause-advance
returns-then-not-made-clause-advance c =
    let u = c.args.course.universe.now in
    let p = c.args.course.plan.now.lanes in
    let l = c.args.number in
    let i = c.loop-place.place in
    let xs = c.instructions-instructions.ensures ∙ ap (λ of. of.instructions) c.lane.ensures in
    let here = read_at p l c.instructions-instructions.result.now i
    c.index-instructions-place.result xs c.loop-place-test.true c.index-instructions-place.is in
    let made = c.in_ok-made.ensures.made in
    let stays = made.same c.if-not-made.true in
    rw (stays.0, stays.1)
    (advance_done u p l c.args.at.now c.loop-place.at c.args.order.now.items c.args.archive.now
    c.loop-place.order.items c.loop-place.archive i c.loop-place.invariant.standing
    c.loop-place.invariant.place c.loop-place.invariant.long c.loop-place.auto.place
    c.loop-place.invariant.leads c.loop-place.invariant.same
    (λ x at. subst (Holds u c.loop-place.archive)
    (some_same c.index-instructions-place.result x _ here at) (made.holds c.if-not-made.true)))
