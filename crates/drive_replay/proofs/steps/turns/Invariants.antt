use Rattle.std.proofs.Common.{◌≡◌, ◌-◌}
use Rattle.drive_replay.specs.Onward.{turned}
use Rattle.drive_replay.proofs.steps.turns.Given as goal

abbrev pub invariant-loop : goal.invariant-loop
invariant-loop l = turned (l.count - l.counter) l.core l.lane ≡ turned l.count l.fn.core l.lane
