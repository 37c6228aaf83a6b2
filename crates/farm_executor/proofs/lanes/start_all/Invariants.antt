use Rattle.std.proofs.Common.{◌≡◌, ◌+◌, ◌≤◌, ℕ, length, drop, slice_get, Some, MatchResult}
use Rattle.std.specs.Vec.{vec_capacity}
use Rattle.std.specs.Vec.Iter.{into_iter_items, into_iter_len}
use Rattle.farm_executor.specs.LaneEnds.{IsEndOf}
use Rattle.lane_runner.specs.Calls.{IsSameEnd}
use Rattle.farm_executor.proofs.lanes.start_all.Given as goal

abbrev pub invariant-loop-job : goal.invariant-loop-job
invariant-loop-job g l = record {
  left : length l.handles.items + into_iter_len l.job-iterator ≡ length l.refused;
  rest : into_iter_items l.job-iterator ≡ drop (length l.handles.items) l.fn.jobs.items;
  room : length l.refused ≤ vec_capacity l.handles;
  each : (k : ℕ) (j : _) (h : _) → slice_get l.fn.jobs.items k ≡ Some j
      → slice_get l.handles.items k ≡ Some h → MatchResult h
      (λ p. (p.promise.job.value ≡ j) × (p.promise.gate.value ≡ l.setting.gate.now))
      (λ e. IsSameEnd (g.E.LaneArchive.home j.end) (g.E.LaneArchive.about j.end)
      (g.E.LaneArchive.lane j.end) (g.E.LaneArchive.home e.end) (g.E.LaneArchive.about e.end)
      (g.E.LaneArchive.lane e.end)
      × IsEndOf (g.E.LaneArchive.about j.end) (g.G.Gate.may_give_up l.setting.gate.now) j.lane
      j.chroot
      (g.E.LaneArchive.log j.end) e.chroot (g.E.LaneArchive.log e.end) e.stop e.spent);
}
