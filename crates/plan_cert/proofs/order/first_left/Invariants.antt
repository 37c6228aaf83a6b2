use Rattle.std.proofs.Common.{ℕ, ◌<◌, ◌≤◌, length, slice_index}
use Rattle.plan_cert.specs.Events.{lane_items}
use Rattle.plan_cert.proofs.order.first_left.Given as goal

-- the lanes so far
abbrev pub invariant-loop-number : goal.invariant-loop-number
invariant-loop-number l =
    (k : ℕ) → k < l.number
    → length (lane_items l.of.claim.universe.now l.of.claim.plan.now.lanes k) ≤ slice_index l.made k
