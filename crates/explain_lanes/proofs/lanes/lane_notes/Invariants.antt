use Rattle.std.proofs.Common.{◌≡◌, ◌++◌}
use Rattle.explain_lanes.specs.LaneNotes.{lane_notes}
use Rattle.explain_lanes.specs.Notes.{all_facts}
use Rattle.explain_reasons.specs.Listed.{all_below}
use Rattle.explain_reasons.specs.Removals.{lane_left}
use Rattle.explain_lanes.proofs.lanes.lane_notes.Given as goal

-- the lanes so far
abbrev pub invariant-loop-lane : goal.invariant-loop-lane
invariant-loop-lane g l =
    let u = l.stage.universe.now in
    let p = l.stage.plan.now.lanes in
    let rows = (g.K.KnownWords.known l.stage.known.now).rows in
    record {
      notes : all_facts l.notes.items
          ≡ all_below l.lane (lane_notes u p rows l.stage.plan.now.lines.lanes);
      left : l.left.items ≡ l.fn.left.items ++ all_below l.lane (lane_left u p rows);
    }
