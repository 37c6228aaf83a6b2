use Rattle.std.proofs.Common.{◌≡◌, map}
use Rattle.std.specs.List.{range_with_len}
use Rattle.draft_plan.specs.Wanted.{numbered_lane}
use Rattle.draft_plan.proofs.wanted.numbered_lanes.Given as goal

-- those so far
abbrev pub invariant-loop-number : goal.invariant-loop-number
invariant-loop-number l =
    l.lanes.items ≡ map (numbered_lane l.bases) (range_with_len 0 l.number)
