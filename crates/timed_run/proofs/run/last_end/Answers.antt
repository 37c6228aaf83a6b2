use Rattle.std.proofs.Common.{arith, subst, sym, ◌+◌}
use Rattle.std.proofs.lemmas.List.{get_or_default}
use Rattle.timed_run.specs.declared.event.Event.{Event}
use Rattle.timed_run.proofs.Ends.{GreatestTo, greatest-more, last-end}
use Rattle.timed_run.proofs.run.last_end.Goals as goal

pub loop-event-preserved : goal.loop-event-preserved
loop-event-preserved c =
    subst (GreatestTo (λ (e : Event). e.end) c.args.first c.args.events.now
    (c.loop-event.event-index + 1)) (sym c.max-end.ensures)
    (greatest-more (λ (e : Event). e.end) c.args.first c.args.events.now
    c.loop-event.event-index c.loop-event.end _ c.loop-event.invariant c.loop-event-test.true
    (get_or_default c.args.events.now c.loop-event.event-index _ _
    c.loop-event-test.true))

pub returns : goal.returns
returns c =
    last-end c.args.first c.args.events.now c.loop-event.event-index c.loop-event.end
    c.loop-event.invariant (omega (arith, c.loop-event-test.false))
