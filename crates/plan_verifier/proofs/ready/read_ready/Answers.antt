use Rattle.std.proofs.Common.{Some, refl}
use Rattle.plan_verifier.proofs.ReadyLaws.{farm-leaves, plan-leaves}
use Rattle.plan_verifier.proofs.ready.read_ready.Goals as goal

pub returns-in_err-universe-clause-before : goal.returns-in_err-universe-clause-before
returns-in_err-universe-clause-before g c =
    farm-leaves c.args.packages.now c.args.sources.now c.args.farm.now c.from_residual.result
    c.in_err-universe.field-0.0 c.from_residual.ensures.1 c.in_err-universe.ensures.read
    c.in_err-universe.ensures.before

pub returns-in-Err-clause-before : goal.returns-in-Err-clause-before
returns-in-Err-clause-before g c =
    plan-leaves c.args.packages.now c.args.sources.now c.args.farm.now
    (record { fault = c.in-Err.fault; before = Some c.in_ok-universe.universe })
    c.in_ok-universe.universe c.in_ok-universe.ensures.read refl
