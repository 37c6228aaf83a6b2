use Rattle.std.proofs.Common.{◌≡◌, ◌+◌, ℕ, length, drop, slice_get, Some}
use Rattle.std.specs.Vec.Iter.{into_iter_items, into_iter_len}
use Rattle.lane_runner.specs.Calls.{IsRunning}
use Rattle.farm_executor.proofs.turns.in_turns.Given as goal

abbrev pub invariant-loop-job : goal.invariant-loop-job
invariant-loop-job g l = record {
  left : length l.lanes.items + into_iter_len l.job-iterator ≡ length l.fn.jobs.items;
  rest : into_iter_items l.job-iterator ≡ drop (length l.lanes.items) l.fn.jobs.items;
  each : (k : ℕ) (j : _) (t : _) → slice_get l.fn.jobs.items k ≡ Some j
      → slice_get l.lanes.items k ≡ Some t → (t.end ≡ j.end)
      × IsRunning t.accepted.now t.runner t.chroot (g.E.LaneArchive.about t.end)
      (g.E.LaneArchive.lane t.end) (g.E.LaneArchive.log t.end);
}
