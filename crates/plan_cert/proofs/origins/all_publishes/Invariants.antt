use Rattle.std.proofs.Common.{◌≡◌, ℕ, length, Some}
use Rattle.std.specs.Prelude.{slice_get}
use Rattle.plan_cert.specs.declared.origins.LanePublishes.{LanePublishes}
use Rattle.plan_cert.specs.Origins.{AreLanePublishes}
use Rattle.plan_cert.proofs.origins.all_publishes.Given as goal

abbrev pub invariant-loop-number : goal.invariant-loop-number
invariant-loop-number l = record {
  long : length l.lanes.items ≡ l.number;
  each : (k : ℕ) (of : LanePublishes) → slice_get l.lanes.items k ≡ Some of
      → AreLanePublishes l.plan.lanes k of.places.items;
}
