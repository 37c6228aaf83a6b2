use Rattle.timed_run.proofs.Paths.{waited-none, waited-some, lane-none, lane-some}
use Rattle.timed_run.proofs.path.ahead.Goals as goal

pub returns-then-events-number-clause-none : goal.returns-then-events-number-clause-none
returns-then-events-number-clause-none g c e b t =
    waited-none (g.F.Farm.universe c.args.farm.now) (g.F.Farm.plan c.args.farm.now) b
    c.args.events.now t c.args.number c.requires.there c.if-events-number.true
    (c.output_ahead.ensures.none e)

pub returns-then-events-number-clause-some : goal.returns-then-events-number-clause-some
returns-then-events-number-clause-some g c j e =
    waited-some (g.F.Farm.universe c.args.farm.now) (g.F.Farm.plan c.args.farm.now) c.requires.timed.0
    c.args.events.now c.requires.timed.1 c.args.number c.requires.there c.if-events-number.true j
    (c.output_ahead.ensures.some j e)

pub returns-clause-none : goal.returns-clause-none
returns-clause-none g c e b t =
    lane-none (g.F.Farm.universe c.args.farm.now) (g.F.Farm.plan c.args.farm.now) b
    c.args.events.now t c.args.number c.requires.there c.if-events-number.false
    (c.ahead_in_lane.ensures.none e)

pub returns-clause-some : goal.returns-clause-some
returns-clause-some g c j e =
    lane-some (g.F.Farm.universe c.args.farm.now) (g.F.Farm.plan c.args.farm.now) c.requires.timed.0
    c.args.events.now c.requires.timed.1 c.args.number c.requires.there c.if-events-number.false j
    (c.ahead_in_lane.ensures.some j e)
