use Rattle.std.proofs.lemmas.List.{get_or_default}
use Rattle.timeline.proofs.LaneLists.{lanes-behind}
use Rattle.timeline.proofs.lanes.lanes_of.Goals as goal

pub loop-number-preserved : goal.loop-number-preserved
loop-number-preserved c =
    lanes-behind c.args.events.now c.args.count c.loop-number.number c.loop-number.lanes.items
    c.add_event.new.lanes.items _ c.loop-number.invariant c.in_ok-add_event.ensures
    c.loop-number-test.true
    (get_or_default c.args.events.now c.loop-number.number _ _ c.loop-number-test.true)
