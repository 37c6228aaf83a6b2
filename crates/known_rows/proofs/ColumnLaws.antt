-- The columns of a plan from those of its lanes.
use Rattle.std.proofs.Common.{◌≡◌, inl, inr, ℕ, ◌<◌, List, length, subst, ◌∙◌, arith}
use Rattle.std.proofs.lemmas.Option.{slice_get_cases}
use Rattle.farm_model.specs.Universe.{Universe}
use Rattle.plan_model.specs.Plan.{Plan}
use Rattle.known_rows.specs.declared.column.Point.{Point}
use Rattle.known_rows.specs.declared.marks.LaneOutputs.{LaneOutputs}
use Rattle.known_rows.specs.Column.{IsGreatestColumn}
use Rattle.known_rows.specs.Columns.{column_of, AreColumns, IsLaneColumn}
use Rattle.known_rows.specs.Marks.{AreLanes}
use Rattle.known_rows.proofs.Sources.{outs-long}

-- one for each of the lanes
pub columns_are : (u : Universe) (p : Plan) (lanes : List LaneOutputs) (ps : List Point)
    (columns : List (List ℕ)) → AreLanes u p lanes → length columns ≡ length lanes
    → ((n : ℕ) → n < length lanes → IsLaneColumn lanes ps n (column_of columns n))
    → AreColumns u p ps columns (length p)
columns_are u p lanes ps columns are long each =
    record {
      long = long ∙ are.long;
      each = λ j lt. elim (slice_get_cases lanes j).1 [
        | inl a ↦
            subst (λ n. IsGreatestColumn j n ps (column_of columns j))
            (outs-long u p j a.0.outputs.items (are.each j a.0 a.2)) (each j a.1 a.0 a.2)
        | inr b ↦ absurd (omega (arith, b.0, lt, are.long))
      ];
    }
