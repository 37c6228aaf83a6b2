use Rattle.std.proofs.Common.{subst, List, ℕ, Err}
use Rattle.std.proofs.lemmas.Result.{err_from_is_err_and}
use Rattle.plan_cert.specs.Broken.{IsOrderChecked}
use Rattle.plan_model.specs.Order.{IsOrder}
use Rattle.plan_cert.specs.PlaceRows.{place_rows_of}
use Rattle.plan_cert.proofs.CheckLaws.{rows-verdict, safety-verdict, order-verdict, certified, promise}
use Rattle.plan_cert.proofs.checker.check_claim.Goals as goal

pub returns-in_err-check_rows-clause-verdict : goal.returns-in_err-check_rows-clause-verdict
returns-in_err-check_rows-clause-verdict g c =
    let from = c.from_residual in
    let e = err_from_is_err_and from.result from.ensures.1 in
    rw (e.1, e.2) (rows-verdict c.args.claim.universe.now c.args.claim.plan.now.lanes
    c.args.certificate.now
    c.requires.certificate c.requires.sound.universe (place_rows_of c.args.claim.known.now)
    c.requires.rows c.in_err-check_rows.field-0.0 c.in_err-check_rows.ensures)

pub returns-in_err-check_safety-clause-verdict : goal.returns-in_err-check_safety-clause-verdict
returns-in_err-check_safety-clause-verdict g c =
    let from = c.from_residual-in_err-check_safety in
    let e = err_from_is_err_and from.result from.ensures.1 in
    rw (e.1, e.2) (safety-verdict c.args.claim.universe.now c.args.claim.plan.now.lanes
    c.args.certificate.now
    c.requires.certificate c.requires.sound.universe (place_rows_of c.args.claim.known.now)
    c.requires.rows c.in_ok-check_rows.ensures c.in_err-check_safety.field-0.0
    c.in_err-check_safety.ensures)

pub returns-in_err-check_order-clause-verdict : goal.returns-in_err-check_order-clause-verdict
returns-in_err-check_order-clause-verdict g c =
    let from = c.from_residual-in_err-check_order in
    let e = err_from_is_err_and from.result from.ensures.1 in
    rw (e.1, e.2) (order-verdict c.args.claim.universe.now c.args.claim.plan.now.lanes
    c.args.certificate.now
    c.requires.certificate c.requires.sound.universe (place_rows_of c.args.claim.known.now)
    c.requires.rows c.in_ok-check_rows.ensures c.in_ok-check_safety.ensures
    c.in_err-check_order.field-0.0
    (subst (λ (xs : List ℕ). IsOrderChecked c.args.claim.universe.now c.args.claim.plan.now.lanes xs
    (Err c.in_err-check_order.field-0.0)) c.order.ensures c.in_err-check_order.ensures))

pub returns-clause-verdict : goal.returns-clause-verdict
returns-clause-verdict g c =
    certified c.args.claim.universe.now c.args.claim.plan.now.lanes c.args.certificate.now
    c.requires.certificate c.requires.sound.universe (place_rows_of c.args.claim.known.now)
    c.requires.rows c.in_ok-check_rows.ensures c.in_ok-check_safety.ensures
    (subst (IsOrder c.args.claim.universe.now c.args.claim.plan.now.lanes) c.order.ensures
    c.in_ok-check_order.ensures)

pub returns-clause-safe : goal.returns-clause-safe
returns-clause-safe g c =
    promise c.args.claim.universe.now c.args.claim.plan.now.lanes c.args.certificate.now
    c.requires.sound
    (certified c.args.claim.universe.now c.args.claim.plan.now.lanes c.args.certificate.now
    c.requires.certificate c.requires.sound.universe (place_rows_of c.args.claim.known.now)
    c.requires.rows c.in_ok-check_rows.ensures c.in_ok-check_safety.ensures
    (subst (IsOrder c.args.claim.universe.now c.args.claim.plan.now.lanes) c.order.ensures
    c.in_ok-check_order.ensures))
