use Rattle.std.proofs.Common.{◌≡◌, ◌++◌}
use Rattle.explain_reasons.specs.Listed.{all_below}
use Rattle.explain_lanes.specs.Notes.{all_facts}
use Rattle.explain_lanes.specs.Waits.{place_notes}
use Rattle.explain_lanes.proofs.waits.push_lane.Given as goal

abbrev pub invariant-loop-place : goal.invariant-loop-place
invariant-loop-place l =
    all_facts l.notes.items ≡ all_facts l.fn.notes.items ++ all_below l.place
    (place_notes l.of.universe.now l.of.plan.now.lanes l.of.plan.now.lines.lanes l.lane)
