-- The columns of the lanes: for each the greatest counts of its outputs.
use Rattle.std.specs.Prelude.{◌≡◌, ℕ, ◌<◌, List, [], length, Some, slice_get, slice_index_or}
use Rattle.farm_model.specs.Universe.{Universe}
use Rattle.plan_model.specs.Plan.{Plan, lane, lane_outputs}
use Rattle.known_rows.specs.declared.column.Point.{Point}
use Rattle.known_rows.specs.declared.marks.LaneOutputs.{LaneOutputs}
use Rattle.known_rows.specs.Column.{Counts, of_list, IsGreatestColumn}
use Rattle.known_rows.specs.Points.{ArePoints}

abbrev pub column_of : List (List ℕ) → ℕ → List ℕ
column_of columns j = slice_index_or columns j []

-- as counts
abbrev pub counts_of : List (List ℕ) → ℕ → Counts
counts_of columns j = of_list (column_of columns j)

-- those of the lanes below n
pub record AreColumns (u : Universe) (p : Plan) (ps : List Point) (columns : List (List ℕ)) (n : ℕ)
    : Type 0 where
  pub long : length columns ≡ n
  pub each : (j : ℕ) → j < n
      → IsGreatestColumn j (length (lane_outputs u (lane p j))) ps (column_of columns j)

-- the greatest counts of the outputs of lane n
abbrev pub IsLaneColumn : List LaneOutputs → List Point → ℕ → List ℕ → Type 0
IsLaneColumn lanes ps n xs =
    (of : LaneOutputs) → slice_get lanes n ≡ Some of
    → IsGreatestColumn n (length of.outputs.items) ps xs

-- the columns of a plan, over its points
pub record HaveColumns (u : Universe) (p : Plan) (columns : List (List ℕ)) : Type 0 where
  pub points : List Point
  pub are_points : ArePoints u p points
  pub are_columns : AreColumns u p points columns (length p)
