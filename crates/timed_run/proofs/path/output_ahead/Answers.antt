use Rattle.std.proofs.Common.{arith}
use Rattle.timed_run.proofs.Paths.{none-lets}
use Rattle.timed_run.proofs.path.output_ahead.Goals as goal

pub returns-clause-none : goal.returns-clause-none
returns-clause-none g c e =
    none-lets (g.F.Farm.universe c.args.farm.now) (g.F.Farm.plan c.args.farm.now)
    c.args.events.now c.args.number c.requires.there c.loop-step.step
    (omega (arith, c.loop-step-test.false)) c.loop-step.invariant
