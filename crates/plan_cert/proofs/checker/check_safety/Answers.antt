use denote.Param.Send.{sendable}
use Rattle.std.proofs.Crossing.{crosses}
use Rattle.known_rows.proofs.Crossing.{universe_sync, plan_sync}
use Rattle.plan_cert.proofs.checker.check_safety.Goals as goal

pub walk_lanes-requires-sync-K : goal.walk_lanes-requires-sync-K
walk_lanes-requires-sync-K g c κs within =
    let u = universe_sync in let p = plan_sync in search (crosses, sendable) depth 60 fits 50000
