use denote.Param.Send.{sendable}
use Rattle.std.proofs.Crossing.{crosses}
use Rattle.plan_verifier.proofs.Crossing.{known_sync}
use Rattle.known_rows.proofs.Crossing.{universe_sync, plan_sync, tables_sync}
use Rattle.explain_answers.proofs.explanation.lanes_beside_texts.Goals as goal

pub join-requires-send-F : goal.join-requires-send-F
join-requires-send-F g c κs within =
    let u = universe_sync in
    let p = plan_sync in
    let t = tables_sync in
    let k = known_sync in
    let r = c.type_bounds.sync-typeof-rt in
    search (crosses, sendable) depth 60 fits 50000
