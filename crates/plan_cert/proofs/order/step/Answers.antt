use Rattle.std.proofs.Common.{◌<◌, ◌≤◌, length, get_or, slice_index, sym, ap, subst, arith}
use Rattle.std.proofs.lemmas.Option.{slice_get-get_or}
use Rattle.plan_model.specs.Plan.{lane}
use Rattle.plan_cert.specs.declared.events.Event.{Event}
use Rattle.plan_cert.specs.Events.{order_item_of, AreEvents, IsMade, lane_items}
use Rattle.plan_cert.proofs.EventLaws.{items-long, left-next, stops-ended, stops-waits, steps}
use Rattle.plan_cert.proofs.order.step.Goals as goal

pub returns-then-next-events : goal.returns-then-next-events
returns-then-next-events c =
    let u = c.args.of.claim.universe.now in
    let p = c.args.of.claim.plan.now.lanes in
    let l = c.args.number in
    let evs = c.as_slice-events.result.now in
    let lt : l < length c.args.of.lanes.now = omega
    (arith, c.requires.lane, c.requires.events.long) in
    let are : AreEvents u p l (length (lane p l).instructions) evs =
    subst (AreEvents u p l (length (lane p l).instructions)) (sym c.as_slice-events.ensures.value)
    (c.requires.events.each l (get_or c.args.of.lanes.now l c.index-of-number.result)
    (slice_get-get_or c.args.of.lanes.now l c.index-of-number.result lt)) in
    let long = items-long u p l evs are in
    let past : length (lane_items u p l) ≤ slice_index c.args.made.now l =
    omega (arith, long, c.if-next-events.true, ap length c.as_slice-events.ensures.value) in
    stops-ended u p l c.args.made.now c.args.archive.now c.requires.lane c.requires.archive past

pub make-requires-clause-event : goal.make-requires-clause-event
make-requires-clause-event c =
    let u = c.args.of.claim.universe.now in
    let p = c.args.of.claim.plan.now.lanes in
    let l = c.args.number in
    let evs = c.as_slice-events.result.now in
    let lt : l < length c.args.of.lanes.now = omega
    (arith, c.requires.lane, c.requires.events.long) in
    let are : AreEvents u p l (length (lane p l).instructions) evs =
    subst (AreEvents u p l (length (lane p l).instructions)) (sym c.as_slice-events.ensures.value)
    (c.requires.events.each l (get_or c.args.of.lanes.now l c.index-of-number.result)
    (slice_get-get_or c.args.of.lanes.now l c.index-of-number.result lt)) in
    are.each (slice_index c.args.made.now l) (Event.Pass 0)
    (omega (arith, c.if-next-events.false, ap length c.as_slice-events.ensures.value))

pub returns-then-not-branch : goal.returns-then-not-branch
returns-then-not-branch c =
    let u = c.args.of.claim.universe.now in
    let p = c.args.of.claim.plan.now.lanes in
    let l = c.args.number in
    let evs = c.as_slice-events.result.now in
    let n = slice_index c.args.made.now l in
    let lt : l < length c.args.of.lanes.now = omega
    (arith, c.requires.lane, c.requires.events.long) in
    let are : AreEvents u p l (length (lane p l).instructions) evs =
    subst (AreEvents u p l (length (lane p l).instructions)) (sym c.as_slice-events.ensures.value)
    (c.requires.events.each l (get_or c.args.of.lanes.now l c.index-of-number.result)
    (slice_get-get_or c.args.of.lanes.now l c.index-of-number.result lt)) in
    let below : n < length evs =
    omega (arith, c.if-next-events.false, ap length c.as_slice-events.ensures.value) in
    let item = order_item_of p l (get_or evs n (Event.Pass 0)) in
    stops-waits u p l c.args.made.now c.args.archive.now c.make.new.archive item _ c.requires.lane
    (left-next u p l evs are n (Event.Pass 0) below)
    (subst (IsMade u l item c.args.archive.now c.make.new.archive) c.if-not-branch.true
    c.in_ok-make.ensures)

pub returns : goal.returns
returns c =
    let u = c.args.of.claim.universe.now in
    let p = c.args.of.claim.plan.now.lanes in
    let l = c.args.number in
    let evs = c.as_slice-events.result.now in
    let n = slice_index c.args.made.now l in
    let lt : l < length c.args.of.lanes.now = omega
    (arith, c.requires.lane, c.requires.events.long) in
    let are : AreEvents u p l (length (lane p l).instructions) evs =
    subst (AreEvents u p l (length (lane p l).instructions)) (sym c.as_slice-events.ensures.value)
    (c.requires.events.each l (get_or c.args.of.lanes.now l c.index-of-number.result)
    (slice_get-get_or c.args.of.lanes.now l c.index-of-number.result lt)) in
    let below : n < length evs =
    omega (arith, c.if-next-events.false, ap length c.as_slice-events.ensures.value) in
    let item = order_item_of p l (get_or evs n (Event.Pass 0)) in
    steps u p l c.args.made.now c.args.archive.now c.make.new.archive item c.requires.lane
    (omega (arith, c.requires.lane, c.requires.made))
    (left-next u p l evs are n (Event.Pass 0) below)
    (subst (IsMade u l item c.args.archive.now c.make.new.archive) c.if-not-branch.false
    c.in_ok-make.ensures)
