use Rattle.std.proofs.Common.{◌≡◌, ◌<◌, ℕ, Some, slice_get}
use Rattle.drive_run.proofs.turns.are_numbered.Given as goal

abbrev pub invariant-loop-number : goal.invariant-loop-number
invariant-loop-number g l =
    (k : ℕ) (t : _) → k < l.number → slice_get l.lanes k ≡ Some t → t.runner.lane ≡ k
