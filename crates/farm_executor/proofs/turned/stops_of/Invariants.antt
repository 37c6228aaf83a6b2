use Rattle.std.proofs.Common.{◌≡◌, ◌≤◌, ℕ, Some, length, slice_get}
use Rattle.std.specs.Vec.{vec_capacity}
use Rattle.farm_executor.specs.Turned.{IsStopIn}
use Rattle.farm_executor.proofs.turned.stops_of.Given as goal

abbrev pub invariant-loop-number : goal.invariant-loop-number
invariant-loop-number g l = record {
  long : length l.stops.items ≡ l.number;
  room : length l.lanes ≤ vec_capacity l.stops;
  each : (k : ℕ) (e : _) → slice_get l.stops.items k ≡ Some e → IsStopIn l.cause k e;
}
