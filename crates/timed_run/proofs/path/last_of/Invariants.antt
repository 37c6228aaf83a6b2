use Rattle.std.proofs.Common.{◌≡◌, ◌<◌, ℕ, Some, slice_get}
use Rattle.timed_run.specs.declared.event.Event.{Event}
use Rattle.timed_run.proofs.path.last_of.Given as goal

abbrev pub invariant-loop-number : goal.invariant-loop-number
invariant-loop-number l = (k : ℕ) (e : Event) → k < l.number → slice_get l.events k ≡ Some e
    → e.end ≡ l.end → ⊥
