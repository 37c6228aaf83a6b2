use Rattle.std.proofs.Common.{◌≡◌}
use Rattle.may_rows.specs.Words.{may_of}
use Rattle.explain_reasons.specs.Listed.{all_below}
use Rattle.explain_lanes.specs.LaneNotes.{of_name}
use Rattle.explain_lanes.proofs.further.entry_further.Given as goal

-- the names so far
abbrev pub invariant-loop-name : goal.invariant-loop-name
invariant-loop-name l =
    l.found.items ≡ all_below l.name (of_name l.universe (may_of l.state) l.entry)
