use Rattle.std.proofs.Common.{drop}
use Rattle.std.specs.List.{AllZip}
use Rattle.draft_plan.specs.Follows.{LaneFollows}
use Rattle.draft_plan.proofs.following.lanes_follow.Given as goal

abbrev pub invariant-loop-lane : goal.invariant-loop-lane
invariant-loop-lane l =
    AllZip (LaneFollows l.named l.left_out) l.rest (drop l.lane-index l.lanes)
    → AllZip (LaneFollows l.named l.left_out) l.wanted l.lanes
