-- Known rows as a value of the program. The project's own words. Parameters: u a universe, p a
-- plan, columns how many outputs of each lane each wait and `when` knows.
--
--   KnownRows                the universe and the plan, and the columns
--   column_rows, rows_of     what the columns tell at each place
--   HasCounts                each point has a count in each column
--   Knowledge                known rows of a plan, however they are kept
use Rattle.std.specs.Prelude.{◌≡◌, ℕ, ◌<◌, List, length}
use Rattle.farm_model.specs.Universe.{Universe}
use Rattle.plan_model.specs.Common.{Plan, Rows}
use Rattle.verdict_laws.specs.Clocks.{clock_rows}
use Rattle.known_rows.specs.Columns.{column_of, counts_of}
use Rattle.known_rows.specs.Points.{first_point, clock_of}

pub record KnownRows : Type 0 where
  pub universe : Universe
  pub plan : Plan
  pub columns : List (List ℕ)

-- what the columns tell at each place
abbrev pub column_rows : Universe → Plan → List (List ℕ) → Rows
column_rows u p columns = clock_rows u p (clock_of u p (counts_of columns))

abbrev pub rows_of : KnownRows → Rows
rows_of known = column_rows known.universe known.plan known.columns

-- each wait and `when` of the plan has a count of the outputs of each lane
pub record HasCounts (p : Plan) (columns : List (List ℕ)) : Type 0 where
  pub long : length columns ≡ length p
  pub each : (j : ℕ) → j < length p → length (column_of columns j) ≡ first_point p (length p)

pub record Knowledge : Type 0 where
  pub universe : Universe
  pub plan : Plan
  pub rows : Rows
