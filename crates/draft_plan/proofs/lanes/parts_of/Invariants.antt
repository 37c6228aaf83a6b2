use Rattle.std.proofs.Common.{◌≡◌, ◌++◌, drop}
use Rattle.draft_plan.proofs.lanes.parts_of.Given as goal

-- those so far, and the others
abbrev pub invariant-loop-number : goal.invariant-loop-number
invariant-loop-number l = l.parts.items ++ drop l.number l.plan.lanes ≡ l.plan.lanes
