use Rattle.std.proofs.Common.{◌≡◌, length}
use Rattle.drive_answers.proofs.standing_times.open_costs.Given as goal

abbrev pub invariant-loop-lane : goal.invariant-loop-lane
invariant-loop-lane l = length l.costs.items ≡ l.lane
