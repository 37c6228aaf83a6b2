use Rattle.std.proofs.Common.{◌≡◌, ◌≤◌, ◌-◌, length}
use Rattle.explain_reasons.specs.Listed.{all_below}
use Rattle.explain_lanes.specs.Waits.{in_row}
use Rattle.explain_lanes.proofs.variants.listed.Given as goal

-- the names so far
abbrev pub invariant-loop-name : goal.invariant-loop-name
invariant-loop-name l =
    record {
      within : l.name ≤ length l.row;
      found : l.found.items ≡ all_below l.name (in_row l.universe l.row);
    }

abbrev pub decreases-loop-name : goal.decreases-loop-name
decreases-loop-name l = length l.row - l.name
