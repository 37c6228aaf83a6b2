use Rattle.std.proofs.Common.{◌≡◌, ℕ, suc, length, Some, slice_get}
use Rattle.plan_model.specs.Plan.{lane}
use Rattle.known_rows.specs.declared.marks.LaneOutputs.{LaneOutputs}
use Rattle.known_rows.specs.Marks.{all_marks, outputs_with_points, ArePast}
use Rattle.known_rows.proofs.marks.walk.Given as goal

-- the lanes so far
abbrev pub invariant-loop-number : goal.invariant-loop-number
invariant-loop-number l =
    record {
      marks : l.marks.items ≡ all_marks l.universe l.plan.lanes l.number;
      long : length l.lanes.items ≡ l.number;
      each : (k : ℕ) (of : LaneOutputs) → slice_get l.lanes.items k ≡ Some of
          → of.outputs.items ≡ outputs_with_points l.universe l.plan.lanes k
          (length (lane l.plan.lanes k).instructions);
      past : (k : ℕ) (of : LaneOutputs) → slice_get l.lanes.items k ≡ Some of
          → ArePast l.universe l.plan.lanes k (suc (length (lane l.plan.lanes k).instructions))
          of.past.items;
    }
