use Rattle.std.proofs.Common.{◌≡◌}
use Rattle.explain_reasons.specs.Listed.{all_below}
use Rattle.explain_lanes.specs.Notes.{all_facts}
use Rattle.explain_lanes.specs.Waits.{lane_waits}
use Rattle.explain_lanes.proofs.waits.waits_notes.Given as goal

-- the lanes so far
abbrev pub invariant-loop-lane : goal.invariant-loop-lane
invariant-loop-lane g l =
    all_facts l.notes.items ≡ all_below l.lane
    (lane_waits l.stage.universe.now l.stage.plan.now.lanes l.stage.plan.now.lines.lanes)
