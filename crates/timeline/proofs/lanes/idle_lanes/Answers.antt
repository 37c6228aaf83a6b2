use Rattle.std.proofs.Common.{[], ◌+◌, refl, sym, subst}
use Rattle.timeline.specs.LaneTimes.{AreLanes, lane_time}
use Rattle.timeline.proofs.LaneLists.{lanes-none, lanes-more}
use Rattle.timeline.proofs.lanes.idle_lanes.Goals as goal

pub loop-init : goal.loop-init
loop-init c = subst (AreLanes [] 0) (sym c.new-lanes.ensures.items) (lanes-none [])

pub loop-preserved : goal.loop-preserved
unfolding lane_time
loop-preserved c =
    subst (AreLanes [] (c.loop.counter + 1)) (sym c.in_ok-push.ensures.items)
    (lanes-more [] c.loop.counter c.loop.lanes.items _ c.loop.invariant refl)
