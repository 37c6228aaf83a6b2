use denote.Param.Send.{sendable}
use Rattle.plan_verifier.proofs.Crossing.{stage_sync}
use Rattle.plan_verifier.proofs.costs.walk_lanes.Goals as goal

pub walk_each-requires-sync-W : goal.walk_each-requires-sync-W
walk_each-requires-sync-W g c κs within =
    let k = c.type_bounds.sync-K in search (stage_sync, sendable) depth 20
