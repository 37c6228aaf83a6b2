-- An accepted plan may be shared by threads.
use denote.Param.Send.{IsSync, sendable}
use Rattle.std.proofs.Crossing.{crosses}
use Rattle.plan_verifier.specs.contracts.accepted.Accepted as Accepted
use Rattle.plan_verifier.proofs.Crossing.{known_sync}
use Rattle.known_rows.proofs.Crossing.{universe_sync, plan_sync, tables_sync}

pub accepted_sync : IsSync Accepted.the_row
accepted_sync =
    let u = universe_sync in
    let p = plan_sync in
    let k = known_sync in
    let t = tables_sync in
    search (crosses, sendable) depth 60 fits 50000
