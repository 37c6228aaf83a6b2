use Rattle.timed_run.proofs.Paths.{known, lets, not_waits, not_none}
use Rattle.timed_run.proofs.path.lets_on.Goals as goal

pub lets_pass-requires : goal.lets_pass-requires
lets_pass-requires g c =
    known (g.F.Farm.universe c.args.farm.now) (g.F.Farm.plan c.args.farm.now) c.requires.timed.0 c.requires.sound
    c.args.events.now c.requires.timed.1 c.args.other c.args.number c.requires.other
    c.requires.there c.in-Some.variant c.in-Some.is

pub returns-in-Some-clause-lets : goal.returns-in-Some-clause-lets
returns-in-Some-clause-lets g c passes =
    lets (g.F.Farm.universe c.args.farm.now) (g.F.Farm.plan c.args.farm.now) c.requires.timed.0 c.requires.sound
    c.args.events.now c.requires.timed.1 c.args.other c.args.number c.requires.other
    c.requires.there c.if-ahead-event.false c.in-Some.variant c.in-Some.is
    (c.lets_pass.ensures.passes passes)

pub returns-in-Some-clause-not : goal.returns-in-Some-clause-not
returns-in-Some-clause-not g c waits =
    not_waits (g.F.Farm.universe c.args.farm.now) (g.F.Farm.plan c.args.farm.now)
    c.requires.timed.0 c.requires.sound c.args.events.now c.requires.timed.1 c.args.other c.args.number
    c.requires.other c.requires.there c.in-Some.variant c.in-Some.is
    (c.lets_pass.ensures.waits waits)

pub returns-in-None-clause-not : goal.returns-in-None-clause-not
returns-in-None-clause-not g c waits =
    not_none (g.F.Farm.universe c.args.farm.now) (g.F.Farm.plan c.args.farm.now)
    c.requires.timed.0 c.requires.sound c.args.events.now c.requires.timed.1 c.args.other c.args.number
    c.requires.other c.requires.there c.in-None.is
