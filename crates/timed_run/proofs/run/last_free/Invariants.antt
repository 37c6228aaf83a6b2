use Rattle.timed_run.proofs.Ends.{GreatestTo}
use Rattle.timed_run.proofs.run.last_free.Given as goal

abbrev pub invariant-loop-time : goal.invariant-loop-time
invariant-loop-time l = GreatestTo (λ time. time) 0 l.free l.time-index l.last
