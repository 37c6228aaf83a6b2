use Rattle.std.proofs.Common.{◌≡◌, ◌++◌, [], drop}
use Rattle.draft_plan.specs.Wished.{sketch}
use Rattle.draft_plan.proofs.sketch.sketch_of.Given as goal

abbrev pub invariant-loop-lane : goal.invariant-loop-lane
invariant-loop-lane l =
    l.wanted.items ++ sketch l.seen.items (drop l.lane-index l.lanes) ≡ sketch [] l.lanes
