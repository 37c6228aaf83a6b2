use Rattle.timed_run.specs.declared.event.Event.{Event}
use Rattle.timed_run.proofs.Ends.{GreatestTo}
use Rattle.timed_run.proofs.run.last_end.Given as goal

abbrev pub invariant-loop-event : goal.invariant-loop-event
invariant-loop-event l =
    GreatestTo (λ (e : Event). e.end) l.first l.events l.event-index l.end
