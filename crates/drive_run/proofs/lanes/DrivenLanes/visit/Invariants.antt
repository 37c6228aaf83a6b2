use Rattle.std.proofs.Common.{◌≡◌}
use Rattle.farm_executor.specs.Turned.{IsTurned}
use Rattle.drive_run.specs.Asking.{IsStaged}
use Rattle.drive_run.specs.LaneStages.{OthersStay, stage_at}
use Rattle.drive_run.proofs.lanes.DrivenLanes.visit.Given as goal

abbrev pub invariant-loop : goal.invariant-loop
invariant-loop g l = record {
  can : (goal.iterator-loop g).can_next l.iterator';
  finite : (goal.iterator-loop g).is_finite l.iterator';
  turned : IsTurned (g.E.LaneArchive.home l.fn.lane.end) (g.E.LaneArchive.about l.fn.lane.end)
      (g.E.LaneArchive.lane l.fn.lane.end) (g.E.LaneArchive.log l.fn.lane.end)
      (g.E.LaneArchive.home l.lane.end) l.lane.accepted.now l.lane.runner l.lane.chroot
      (g.E.LaneArchive.about l.lane.end) (g.E.LaneArchive.lane l.lane.end)
      (g.E.LaneArchive.log l.lane.end);
  staged : IsStaged l.lane.accepted.now l.lane.runner.lane l.lane.chroot
      (g.E.LaneArchive.log l.lane.end) (stage_at l.self.stages l.lane.runner.lane);
  same : l.lane.runner.lane ≡ l.fn.lane.runner.lane;
  others : OthersStay l.fn.lane.runner.lane l.fn.self.stages l.self.stages;
  known : l.self.known ≡ l.fn.self.known;
}
