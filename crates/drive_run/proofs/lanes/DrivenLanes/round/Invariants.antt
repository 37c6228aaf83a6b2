use Rattle.std.proofs.Common.{◌≡◌, ℕ, Some, slice_get}
use Rattle.farm_executor.specs.Turned.{IsTurned}
use Rattle.drive_run.specs.Asking.{IsStaged}
use Rattle.drive_run.specs.LaneStages.{stage_at}
use Rattle.drive_run.proofs.lanes.DrivenLanes.round.Given as goal

abbrev pub invariant-loop-number : goal.invariant-loop-number
invariant-loop-number g l = record {
  turned : (k : ℕ) (s t : _) → slice_get l.fn.lanes k ≡ Some s → slice_get l.lanes k ≡ Some t
      → IsTurned (g.E.LaneArchive.home s.end) (g.E.LaneArchive.about s.end)
      (g.E.LaneArchive.lane s.end) (g.E.LaneArchive.log s.end) (g.E.LaneArchive.home t.end)
      t.accepted.now t.runner t.chroot (g.E.LaneArchive.about t.end) (g.E.LaneArchive.lane t.end)
      (g.E.LaneArchive.log t.end);
  numbered : (k : ℕ) (t : _) → slice_get l.lanes k ≡ Some t → t.runner.lane ≡ k;
  staged : (k : ℕ) (t : _) → slice_get l.lanes k ≡ Some t → IsStaged t.accepted.now t.runner.lane
      t.chroot (g.E.LaneArchive.log t.end) (stage_at l.self.stages t.runner.lane);
  known : l.self.known ≡ l.fn.self.known;
}
