use Rattle.std.proofs.Common.{◌≡◌, length}
use Rattle.drive_run.proofs.Leasts.{AreBelowIn}
use Rattle.drive_run.proofs.known.lane_words.Given as goal

abbrev pub invariant-loop-number : goal.invariant-loop-number
invariant-loop-number l = record {
  long : length l.words.items ≡ l.number;
  below : AreBelowIn l.accepted.plan l.notes l.number l.words.items;
}
