use Rattle.std.proofs.Common.{◌≡◌}
use Rattle.drive_run.proofs.lanes.DrivenLanes.read.Given as goal

abbrev pub invariant-loop : goal.invariant-loop
invariant-loop g l = record {
  can : (goal.iterator-loop g).can_next l.iterator';
  finite : (goal.iterator-loop g).is_finite l.iterator';
  known : l.self.known ≡ l.fn.self.known;
  stages : l.self.stages ≡ l.fn.self.stages;
}
