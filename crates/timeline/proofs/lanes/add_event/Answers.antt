use Rattle.std.proofs.Common.{◌<◌, length, refl, arith}
use Rattle.std.proofs.lemmas.Option.{slice_get_read}
use Rattle.timeline.proofs.LaneLists.{behind-lane, behind-none}
use Rattle.timeline.proofs.lanes.add_event.Goals as goal

pub returns-then-event-len : goal.returns-then-event-len
returns-then-event-len c =
    behind-none c.args.event.now c.args.lanes.now.items
    (omega (arith, c.if-event-len.true, c.len.ensures))

pub returns : goal.returns
returns c =
    let there : c.args.event.now.lane < length c.args.lanes.now.items =
    omega (arith, c.if-event-len.false, c.len.ensures) in
    behind-lane c.args.event.now c.args.lanes.now.items c.index_mut-lane.result.now _
    (slice_get_read c.args.lanes.now.items (length c.args.lanes.now.items)
    c.args.event.now.lane c.index_mut-lane.result.now refl there c.index_mut-lane.ensures.value)
    c.with_event-lane.ensures
