use Rattle.std.proofs.Common.{◌≡◌, ℕ, Some, slice_get}
use Rattle.farm_executor.specs.Turned.{IsTurned}
use Rattle.drive_run.specs.Asking.{IsStaged}
use Rattle.drive_run.specs.LaneStages.{stage_at}
use Rattle.drive_run.proofs.turns.DrivenLanesTurner.take_turns.Given as goal

abbrev pub invariant-loop : goal.invariant-loop
invariant-loop g l = record {
  can : (goal.iterator-loop g).can_next l.iterator';
  finite : (goal.iterator-loop g).is_finite l.iterator';
  turned : (k : ℕ) (s t : _) → slice_get l.fn.lanes k ≡ Some s → slice_get l.lanes k ≡ Some t
      → IsTurned (g.E.LaneArchive.home s.end) (g.E.LaneArchive.about s.end)
      (g.E.LaneArchive.lane s.end) (g.E.LaneArchive.log s.end) (g.E.LaneArchive.home t.end)
      t.accepted.now t.runner t.chroot (g.E.LaneArchive.about t.end) (g.E.LaneArchive.lane t.end)
      (g.E.LaneArchive.log t.end);
  numbered : (k : ℕ) (t : _) → slice_get l.lanes k ≡ Some t → t.runner.lane ≡ k;
  staged : (k : ℕ) (t : _) → slice_get l.lanes k ≡ Some t → IsStaged t.accepted.now t.runner.lane
      t.chroot (g.E.LaneArchive.log t.end) (stage_at l.self.stages t.runner.lane);
}
