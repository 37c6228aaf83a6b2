use Rattle.std.proofs.Common.{◌≢◌, [], subst}
use Rattle.plan_model.specs.Order.{AreStuck}
use Rattle.known_rows.specs.KnownRows.{rows_of}
use Rattle.wait_order.specs.Answer.{IsWhyNone}
use Rattle.wait_order.specs.declared.rounds.OrderError.TheVariants.{Stuck}
use Rattle.plan_verifier.specs.Stuck.{IsToldStuck}
use Rattle.plan_verifier.proofs.Walks.{stuck_verdict}
use Rattle.plan_verifier.proofs.examined.find_grounds.Goals as goal

pub returns-in-Err-Stuck-clause-refused : goal.returns-in-Err-Stuck-clause-refused
returns-in-Err-Stuck-clause-refused g c =
    let u = c.args.universe.now in
    let p = c.args.plan.now.lanes in
    let lanes = c.in-Err-Stuck.lanes.items in
    let both = c.walks_beside_order-costs.ensures in
    let why : IsWhyNone u p (Stuck c.in-Err-Stuck.lanes) =
    subst (IsWhyNone u p) c.in-Err-Stuck.field-0-is (rw c.in-Err-Stuck.is at both.stuck) in
    let stuck : AreStuck u p lanes × (lanes ≢ []) = why in
    stuck_verdict u p (rows_of c.args.known.now) c.requires.greatest
    (rw c.in_ok-costs.was at both.walked).0 lanes stuck.0 stuck.1 c.stuck_refusal.result
    (subst (λ ls. IsToldStuck p ls c.stuck_refusal.result) c.deref.ensures.value
    c.stuck_refusal.ensures)
