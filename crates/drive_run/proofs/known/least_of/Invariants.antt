use Rattle.std.proofs.Common.{◌≡◌, ◌<◌, ℕ, true}
use Rattle.drive_replay.specs.LaneNotes.{note_at}
use Rattle.drive_run.proofs.known.least_of.Given as goal

abbrev pub invariant-loop-number : goal.invariant-loop-number
invariant-loop-number l =
    (n : ℕ) → n < l.number → (note_at l.notes l.lane n).done ≡ true → n < l.least
