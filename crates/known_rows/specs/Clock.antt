-- The clock of a place: how many outputs of each lane count there. The project's own words.
-- Parameters: u a universe, p a plan, lanes the outputs of each lane, x how many outputs of each
-- lane count, n a name, b a bit.
--
--   count_of, IsClockFor     the counts of a clock; it has one for each lane
--   row_of                   the initial archive, and of each lane so many outputs
--   AreWithin                no more of a lane than of it in others
--   IsCounted                an output that counts is this variant
use Rattle.std.specs.Prelude.{◌≡◌, ℕ, ◌<◌, ◌≤◌, ◌||◌, ◌==◌, Bool, List, length, take, if◌then◌else◌}
use Rattle.farm_model.specs.Common.{some_below, Universe, contains, initial}
use Rattle.farm_model.specs.declared.types.Variant.{Variant}
use Rattle.plan_model.specs.Plan.{Plan, lane, lane_outputs}
use Rattle.known_rows.specs.declared.by_name.OutputPlace.{OutputPlace}
use Rattle.known_rows.specs.declared.clock.Clock.{Clock}
use Rattle.known_rows.specs.declared.marks.LaneOutputs.{LaneOutputs}
use Rattle.known_rows.specs.declared.marks.Output.{Output}
use Rattle.known_rows.specs.ByName.{IsOutput}
use Rattle.known_rows.specs.Column.{count_at, IsPointBelow}
use Rattle.known_rows.specs.Columns.{column_of, counts_of}

-- of its own lane the outputs made, of another those that its last point knows
abbrev pub count_of : Clock → ℕ → ℕ
count_of clock j =
    if j == clock.lane then clock.own else count_at (counts_of clock.columns.now j) clock.last

-- the last point has a count of each of so many lanes
pub record IsClockFor (lanes : ℕ) (clock : Clock) : Type 0 where
  pub long : length clock.columns.now ≡ lanes
  pub there : (j : ℕ) → j < lanes → IsPointBelow (length (column_of clock.columns.now j)) clock.last

-- the initial archive, and of each lane so many outputs
abbrev pub row_of : Universe → Plan → (ℕ → ℕ) → Variant → Bool
row_of u p x v =
    initial u v || some_below (length p) (λ j. contains (take (x j) (lane_outputs u (lane p j))) v)

-- of each of so many lanes no more than others
abbrev pub AreWithin : ℕ → (ℕ → ℕ) → (ℕ → ℕ) → Type 0
AreWithin lanes x y = (j : ℕ) → j < lanes → x j ≤ y j

-- the output at a place counts, and is this variant of the name
pub record IsCounted (lanes : List LaneOutputs) (x : ℕ → ℕ) (at : OutputPlace) (n b : ℕ)
    : Type 0 where
  pub output : Output
  pub is : IsOutput lanes at.lane at.number output
  pub before : at.number < x at.lane
  pub named : output.variant.name ≡ n
  pub bit : output.variant.bit ≡ b
