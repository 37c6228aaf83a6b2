use Rattle.std.proofs.Common.{◌≡◌, map, take}
use Rattle.deb_text.specs.Lists.{lists}
use Rattle.plan_model.specs.Plan.{lane}
use Rattle.plan_verifier.proofs.stuck.lane_names.Given as goal

-- the names of the lanes so far
abbrev pub invariant-loop-number : goal.invariant-loop-number
invariant-loop-number l =
    lists l.names.items ≡ map (λ n. (lane l.plan.lanes n).name) (take l.number-index l.lanes)
