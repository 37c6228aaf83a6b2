use Rattle.std.proofs.lemmas.Option.{slice_get-get_or}
use Rattle.timed_run.proofs.Nearer.{next-here, next-still, next-later}
use Rattle.timed_run.proofs.earliest.nearer.Goals as goal

pub returns-then-ends_sooner : goal.returns-then-ends_sooner
returns-then-ends_sooner g c =
    let sooner = c.ends_sooner.ensures c.if-ends_sooner.true in
    next-later (g.F.Farm.plan c.args.farm.now) (g.F.Farm.state c.args.farm.now) c.args.clocks.now
    c.args.lane _ (slice_get-get_or c.args.clocks.now c.args.lane _ c.requires.there) c.args.found
    c.requires.found sooner.0 sooner.1 sooner.2

pub returns-then-is_earlier : goal.returns-then-is_earlier
returns-then-is_earlier g c =
    next-here (g.F.Farm.plan c.args.farm.now) (g.F.Farm.state c.args.farm.now) c.args.clocks.now
    c.args.lane _ (slice_get-get_or c.args.clocks.now c.args.lane _ c.requires.there) c.args.found
    c.requires.found c.if-not-clock.false c.next_moment-moment.result
    c.next_moment-moment.ensures c.is_earlier.result c.is_earlier.ensures.none
    c.is_earlier.ensures.some c.if-is_earlier.true

pub returns : goal.returns
returns g c =
    next-still (g.F.Farm.plan c.args.farm.now) (g.F.Farm.state c.args.farm.now) c.args.clocks.now
    c.args.lane _ (slice_get-get_or c.args.clocks.now c.args.lane _ c.requires.there) c.args.found
    c.requires.found c.if-not-clock.false c.next_moment-moment.result
    c.next_moment-moment.ensures c.is_earlier.result c.is_earlier.ensures.none
    c.is_earlier.ensures.some c.if-is_earlier.false
