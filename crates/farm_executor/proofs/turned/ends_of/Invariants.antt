use Rattle.std.proofs.Common.{◌≡◌, ◌+◌, ◌≤◌, ℕ, length, drop, slice_get, Some}
use Rattle.std.specs.Vec.{vec_capacity}
use Rattle.std.specs.Vec.Iter.{into_iter_items, into_iter_len}
use Rattle.farm_executor.proofs.turned.ends_of.Given as goal

abbrev pub invariant-loop-lane : goal.invariant-loop-lane
invariant-loop-lane g l = record {
  left : length l.ends.items + into_iter_len l.lane-iterator ≡ length l.fn.lanes.items;
  rest : into_iter_items l.lane-iterator ≡ drop (length l.ends.items) l.fn.lanes.items;
  room : length l.fn.lanes.items ≤ vec_capacity l.ends;
  each : (k : ℕ) (t : _) (e : _) → slice_get l.fn.lanes.items k ≡ Some t
      → slice_get l.ends.items k ≡ Some e → (e.stop.code ≡ 0) × (e.stop.instruction ≡ 0)
      × (e.spent ≡ t.runner.spent) × (e.chroot ≡ t.chroot) × (e.end ≡ t.end);
}
