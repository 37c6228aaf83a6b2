use Rattle.std.proofs.Common.{◌≡◌, ◌<◌, ℕ, Some, slice_get}
use Rattle.lane_runner.specs.OnWay.{IsEnded}
use Rattle.farm_executor.proofs.turned.first_left.Given as goal

abbrev pub invariant-loop-number : goal.invariant-loop-number
invariant-loop-number g l = (k : ℕ) (t : _) → k < l.number → slice_get l.lanes k ≡ Some t
    → IsEnded t.accepted.now.universe t.accepted.now.plan t.runner.lane t.runner.spent t.chroot
    (g.E.LaneArchive.log t.end)
