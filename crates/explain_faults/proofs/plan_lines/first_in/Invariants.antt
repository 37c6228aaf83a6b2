use Rattle.std.proofs.Common.{◌≡◌, false, length}
use Rattle.explain_faults.specs.PlanLines.{first_in}
use Rattle.explain_faults.proofs.plan_lines.first_in.Given as goal

abbrev pub invariant-loop-left : goal.invariant-loop-left
invariant-loop-left l =
    first_in l.in_lanes (l.begun.0.now, l.begun.1.now) l.number false l.lines
    ≡ first_in l.in_lanes (l.begun.0.now, l.begun.1.now) l.number l.is_in_lane l.left

abbrev pub decreases-loop-left : goal.decreases-loop-left
decreases-loop-left l = length l.left
