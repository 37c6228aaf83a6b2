use Rattle.std.proofs.Common.{◌≡◌, ◌++◌, drop}
use Rattle.draft_plan.specs.Wished.{pinned}
use Rattle.draft_plan.proofs.lists.pinned.Given as goal

abbrev pub invariant-loop-lane : goal.invariant-loop-lane
invariant-loop-lane l =
    l.recipes.items ++ pinned (drop l.lane-index l.lanes) ≡ pinned l.lanes
