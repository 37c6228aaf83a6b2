-- Rows of the places of a plan as they are kept: rows of words, and for each place of each lane the
-- number of its row. The project's own words. Parameters: u a universe, p a plan, l a lane, i a
-- place, rows the words of all rows so far.
--
--   PlaceRows                 the universe and the plan, the places, and the rows, without what the
--                             initial archive has
--   listed_at, place_rows_of  the row at a place, and the set at each place
--   ArePlaceRows              what such rows keep
--   IsRowAt                   the row of this number is this one
--   IsExtended                more rows behind the same
--   AreRowNumbers             the numbers of the rows of a lane's places
use Rattle.std.specs.Prelude.{◌≡◌, ℕ, suc, ◌<◌, ◌≤◌, Bool, ◌||◌, List, [], length, slice_index, slice_index_or, All}
use Rattle.cert_text.specs.Certificates.{IsNewRow}
use Rattle.farm_model.specs.Common.{Universe, initial}
use Rattle.farm_model.specs.declared.types.Variant.{Variant}
use Rattle.plan_model.specs.Common.{Plan, lane, Rows}
use Rattle.sat_rows.specs.Rows.{IsRowOf}
use Rattle.plan_cert.specs.Stated.{in_row}

-- of each lane, for each place, the number of its row; and the rows, without what the initial
-- archive has
pub record PlaceRows : Type 0 where
  pub universe : Universe
  pub plan : Plan
  pub places : List (List ℕ)
  pub listed : List (List ℕ)

-- the number of the row at a place
abbrev pub row_number : List (List ℕ) → ℕ → ℕ → ℕ
row_number places l i = slice_index (slice_index_or places l []) i

-- the row at a place
abbrev pub listed_at : PlaceRows → ℕ → ℕ → List ℕ
listed_at known l i = slice_index_or known.listed (row_number known.places l i) []

-- the set at each place: the initial archive, and what its row lists
abbrev pub place_rows_of : PlaceRows → Rows
place_rows_of known l i v = initial known.universe v || in_row (listed_at known l i) v

-- each place of the plan has a row, of variants that the initial archive does not have
pub record ArePlaceRows (u : Universe) (p : Plan) (places listed : List (List ℕ)) : Type 0 where
  pub lanes : length places ≡ length p
  pub each : (l : ℕ) → l < length p
      → length (slice_index_or places l []) ≡ suc (length (lane p l).instructions)
  pub within : (l i : ℕ) → l < length p → i ≤ length (lane p l).instructions
      → row_number places l i < length listed
  pub rows : All (IsNewRow u) listed

pub record IsRowAt (u : Universe) (test : Variant → Bool) (rows : List (List ℕ)) (number : ℕ)
    : Type 0 where
  pub within : number < length rows
  pub row : IsRowOf u test (slice_index_or rows number [])

pub record IsExtended (u : Universe) (rows more : List (List ℕ)) : Type 0 where
  pub longer : length rows ≤ length more
  pub same : (k : ℕ) → k < length rows → slice_index_or more k [] ≡ slice_index_or rows k []
  pub all_new : All (IsNewRow u) rows → All (IsNewRow u) more

-- for each place up to i the number of its row
pub record AreRowNumbers (u : Universe) (test : ℕ → Variant → Bool) (i : ℕ) (numbers : List ℕ)
    (rows : List (List ℕ)) : Type 0 where
  pub long : length numbers ≡ suc i
  pub each : (k : ℕ) → k ≤ i → IsRowAt u (test k) rows (slice_index numbers k)
