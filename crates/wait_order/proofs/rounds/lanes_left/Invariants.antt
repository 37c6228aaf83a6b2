use Rattle.std.proofs.Common.{◌≡◌, nat_lt, length}
use Rattle.std.specs.List.{filter, range_with_len}
use Rattle.plan_model.specs.Plan.{lane}
use Rattle.wait_order.specs.Standing.{place_of}
use Rattle.wait_order.proofs.rounds.lanes_left.Given as goal

-- the lanes so far
abbrev pub invariant-loop-number : goal.invariant-loop-number
invariant-loop-number l =
    l.lanes.items ≡ filter
    (λ n. nat_lt (place_of l.ats n) (length (lane l.plan.lanes n).instructions))
    (range_with_len 0 l.number)
