-- What threads may share: universes and plans with what is found of them; and what one may hand to
-- another.
use denote.RattleType.{RattleType}
use denote.Ref.{NamedLft}
use denote.Param.Send.{IsSend, IsSync, sendable}
use Rattle.std.proofs.Crossing.{crosses}
use Rattle.plan_verifier.specs.contracts.branch.LaneMay as LaneMay
use Rattle.plan_verifier.specs.contracts.stage.Stage as Stage
use Rattle.known_rows.specs.contracts.known.Known as Known
use Rattle.known_rows.specs.contracts.outputs.Outputs as Outputs
use Rattle.known_rows.proofs.Crossing.{universe_sync, plan_sync, tables_sync}

pub outputs_sync : IsSync Outputs.the_row
outputs_sync = let u = universe_sync in let p = plan_sync in search (crosses, sendable) depth 60
    fits 50000

pub known_sync : IsSync Known.the_row
known_sync = let u = universe_sync in let p = plan_sync in let o = outputs_sync in search
    (crosses, sendable) depth 60 fits 50000

-- a stage, where what it knows may be shared
pub stage_sync : (a : NamedLft) (K : RattleType) → IsSync K → IsSync (Stage.the_row a K)
stage_sync a K k =
    let u = universe_sync in
    let p = plan_sync in
    let o = outputs_sync in
    let t = tables_sync in
    search (crosses, sendable) depth 60 fits 50000

-- what may be held at a place
pub may_send : IsSend LaneMay.the_row
may_send = search (crosses, sendable) depth 60 fits 50000
