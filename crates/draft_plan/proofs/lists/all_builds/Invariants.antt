use Rattle.std.proofs.Common.{◌≡◌, ◌++◌, drop}
use Rattle.draft_plan.specs.Wished.{all_builds}
use Rattle.draft_plan.proofs.lists.all_builds.Given as goal

abbrev pub invariant-loop-lane : goal.invariant-loop-lane
invariant-loop-lane l =
    l.recipes.items ++ all_builds (drop l.lane-index l.lanes) ≡ all_builds l.lanes
