use denote.Param.Send.{sendable}
use Rattle.std.proofs.Common.{Err, ap, subst, ◌∙◌}
use Rattle.plan_model.specs.Common.{Lane, Meets}
use Rattle.known_rows.specs.KnownRows.{rows_of}
use Rattle.plan_verifier.specs.Costs.{AreWalked, IsFirstTold}
use Rattle.plan_verifier.proofs.Crossing.{known_sync}
use Rattle.plan_verifier.proofs.Walks.{refused}
use Rattle.plan_verifier.proofs.costs.check_lanes.Goals as goal

pub lane-requires : goal.lane-requires
lane-requires g c =
    let walked : IsFirstTold c.args.universe.now c.args.plan.now.lanes (rows_of c.args.known.now)
    c.in-Err-Unsafe.lane (Meets c.in-Err-Unsafe.trap) c.in-Err-Unsafe.instruction =
    subst
    (λ e. AreWalked c.args.universe.now c.args.plan.now.lanes (rows_of c.args.known.now) (Err e))
    c.in-Err-Unsafe.field-0-is c.in-Err-Unsafe.ensures in
    walked.first.in_plan

pub returns-in-Err-Unsafe : goal.returns-in-Err-Unsafe
returns-in-Err-Unsafe g c =
    refused c.args.universe.now c.args.plan.now.lanes (rows_of c.args.known.now)
    c.in-Err-Unsafe.lane c.in-Err-Unsafe.instruction (Meets c.in-Err-Unsafe.trap)
    (subst
    (λ e. AreWalked c.args.universe.now c.args.plan.now.lanes (rows_of c.args.known.now) (Err e))
    c.in-Err-Unsafe.field-0-is c.in-Err-Unsafe.ensures)
    c.name-name.result.now
    (c.name-name.ensures ∙ ap (λ (of : Lane). of.name) c.lane.ensures)
    c.unsafe_refusal.result c.unsafe_refusal.ensures

pub walk_lanes-requires-sync-K : goal.walk_lanes-requires-sync-K
walk_lanes-requires-sync-K g c κs within = let k = known_sync in search sendable depth 20
