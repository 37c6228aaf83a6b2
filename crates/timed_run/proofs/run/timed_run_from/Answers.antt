use Rattle.std.proofs.Common.{subst}
use Rattle.timed_run.specs.Beginning.{beginning}
use Rattle.timed_run.specs.Ended.{IsLastEnd}
use Rattle.timed_run.proofs.Advanced.{timed}
use Rattle.timed_run.proofs.Begun.{begun}
use Rattle.timed_run.proofs.Unique.{only-one}
use Rattle.timed_run.proofs.run.timed_run_from.Goals as goal

pub play-requires-clause-timing : goal.play-requires-clause-timing
play-requires-clause-timing g c = (
  beginning (g.F.Farm.state c.args.farm.now) c.args.free.now,
  begun (g.F.Farm.universe c.args.farm.now) (g.F.Farm.plan c.args.farm.now)
      (g.F.Farm.state c.args.farm.now) c.args.free.now c.in_ok-clocks.clocks.items
      c.new-events.result.items c.requires.reached c.requires.lanes c.in_ok-clocks.ensures
      c.new-events.ensures.items,
)

pub returns-clause-run : goal.returns-clause-run
returns-clause-run g c =
    let b = beginning (g.F.Farm.state c.args.farm.now) c.args.free.now in
    timed (g.F.Farm.universe c.args.farm.now) (g.F.Farm.plan c.args.farm.now) b
    c.play.new.events.items c.last_free.result c.last_end-end.result
    (c.in_ok-play.ensures.ended b
    (begun (g.F.Farm.universe c.args.farm.now) (g.F.Farm.plan c.args.farm.now)
    (g.F.Farm.state c.args.farm.now) c.args.free.now c.in_ok-clocks.clocks.items
    c.new-events.result.items c.requires.reached c.requires.lanes c.in_ok-clocks.ensures
    c.new-events.ensures.items)) c.last_free.ensures
    (subst (λ es. IsLastEnd c.last_free.result es c.last_end-end.result) c.deref.ensures.value
    c.last_end-end.ensures)

pub returns-clause-unique : goal.returns-clause-unique
returns-clause-unique g c =
    only-one (g.F.Farm.universe c.args.farm.now) (g.F.Farm.plan c.args.farm.now)
    (beginning (g.F.Farm.state c.args.farm.now) c.args.free.now) c.play.new.events.items
    c.last_end-end.result (returns-clause-run g c)
