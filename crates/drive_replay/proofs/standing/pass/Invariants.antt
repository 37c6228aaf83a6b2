use Rattle.std.proofs.Common.{◌≡◌, ◌-◌}
use Rattle.drive_replay.specs.Standings.{passed}
use Rattle.drive_replay.proofs.standing.pass.Given as goal

abbrev pub invariant-loop : goal.invariant-loop
invariant-loop l = passed (l.most - l.counter) l.core l.lane ≡ passed l.most l.fn.core l.lane
