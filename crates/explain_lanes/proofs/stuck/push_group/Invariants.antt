use Rattle.std.proofs.Common.{◌≡◌, ◌++◌}
use Rattle.explain_reasons.specs.Listed.{all_below}
use Rattle.explain_lanes.specs.Notes.{all_facts}
use Rattle.wait_order.specs.Standing.{place_of}
use Rattle.explain_lanes.specs.Stuck.{lane_notes}
use Rattle.explain_lanes.proofs.stuck.push_group.Given as goal

-- the lanes so far
abbrev pub invariant-loop-lane : goal.invariant-loop-lane
invariant-loop-lane l =
    all_facts l.notes.items ≡ all_facts l.fn.notes.items ++ all_below l.lane
    (λ k. lane_notes l.halted.of.plan.now.lanes l.halted.of.plan.now.lines.lanes
    l.halted.nexts.now l.group k (place_of l.halted.ats.now k))
