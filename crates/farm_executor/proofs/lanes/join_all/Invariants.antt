use Rattle.std.proofs.Common.{◌≡◌, ◌+◌, ◌≤◌, ℕ, length, drop, slice_get, Some, IfErr, MatchResult}
use Rattle.std.specs.Vec.{vec_capacity}
use Rattle.std.specs.Vec.Iter.{into_iter_items, into_iter_len}
use Rattle.farm_executor.specs.LaneEnds.{IsEndOf}
use Rattle.lane_runner.specs.Calls.{IsSameEnd}
use Rattle.farm_executor.proofs.lanes.join_all.Given as goal

abbrev pub invariant-loop-started : goal.invariant-loop-started
invariant-loop-started g l = record {
  left : length l.ends.items + into_iter_len l.started-iterator ≡ length l.fn.handles.items;
  rest : into_iter_items l.started-iterator ≡ drop (length l.ends.items) l.fn.handles.items;
  room : length l.fn.handles.items ≤ vec_capacity l.ends;
  refused : (k : ℕ) (h : _) (r : _) → slice_get l.fn.handles.items k ≡ Some h
      → slice_get l.ends.items k ≡ Some r → IfErr h (λ e. r ≡ e);
  each : (k : ℕ) (h : _) (r : _) → slice_get l.fn.handles.items k ≡ Some h
      → slice_get l.ends.items k ≡ Some r → (j : _) (p : _) → MatchResult h
      (λ q. (q.promise.job.value ≡ j) × (q.promise.gate.value ≡ p))
      (λ e. IsSameEnd (g.E.LaneArchive.home j.end) (g.E.LaneArchive.about j.end)
      (g.E.LaneArchive.lane j.end) (g.E.LaneArchive.home e.end) (g.E.LaneArchive.about e.end)
      (g.E.LaneArchive.lane e.end)
      × IsEndOf (g.E.LaneArchive.about j.end) (g.G.Gate.may_give_up p) j.lane j.chroot
      (g.E.LaneArchive.log j.end) e.chroot (g.E.LaneArchive.log e.end) e.stop e.spent)
      → IsSameEnd (g.E.LaneArchive.home j.end) (g.E.LaneArchive.about j.end)
      (g.E.LaneArchive.lane j.end) (g.E.LaneArchive.home r.end) (g.E.LaneArchive.about r.end)
      (g.E.LaneArchive.lane r.end)
      × IsEndOf (g.E.LaneArchive.about j.end) (g.G.Gate.may_give_up p) j.lane j.chroot
      (g.E.LaneArchive.log j.end) r.chroot (g.E.LaneArchive.log r.end) r.stop r.spent;
}
