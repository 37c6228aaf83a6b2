use Rattle.std.proofs.Common.{◌≡◌, ◌+◌, ◌<◌, ◌≤◌, ℕ, length, drop, slice_get, Some}
use Rattle.std.specs.Vec.{vec_capacity}
use Rattle.std.specs.Vec.Iter.{into_iter_items, into_iter_len}
use Rattle.farm_executor.specs.Seated.{AreSameSeats, IsSeatedAt, blank_log_of}
use Rattle.farm_executor.proofs.jobs.seated.Given as goal

abbrev pub invariant-loop-chroot : goal.invariant-loop-chroot
invariant-loop-chroot l = record {
  left : length l.jobs.items + into_iter_len l.chroot-iterator ≡ length l.fn.chroots.items;
  rest : into_iter_items l.chroot-iterator ≡ drop (length l.jobs.items) l.fn.chroots.items;
  room : length l.fn.chroots.items ≤ vec_capacity l.jobs;
  taken : AreSameSeats l.fn.seats l.seats;
  logs : (k : ℕ) → length l.jobs.items ≤ k → k < length l.fn.seats.logs
      → slice_get l.seats.logs k ≡ Some (blank_log_of l.fn.seats.about k);
  each : (k : ℕ) (c : _) (j : _) → slice_get l.fn.chroots.items k ≡ Some c
      → slice_get l.jobs.items k ≡ Some j
      → IsSeatedAt l.fn.seats.table l.fn.seats.about k c j.lane j.chroot j.end.seat;
}
