-- A certificate of a plan over a universe. The project's own words. Parameters: u the universe, p
-- the plan, l the number of a lane.
--
--   Certificate             rows by lane, and the order of lanes
--   learns, row_places      the instructions behind which stands a row, and their numbers
--   IsNewRow                a row of variants that the initial archive does not have
--   IsCertificate u p c     c has the rows and the lanes of the plan
use Rattle.std.specs.Prelude.{◌≡◌, ℕ, ◌<◌, Bool, true, false, List, [], length, map, filter, slice_index_or, count_by, All}
use Rattle.std.specs.List.{enumerate_from}
use Rattle.bit_rows.specs.Sets.{variants_of}
use Rattle.farm_model.specs.Common.{Universe, names, variant, variants, initial}
use Rattle.plan_model.specs.Common.{teaches, Plan, Lane, lane}
use Rattle.plan_model.specs.declared.instructions.Instruction.{Instruction}

-- by lane a row of words behind each wait, publish and `when`, and lanes by number, one for each
-- wait passed and each output
pub record Certificate : Type 0 where
  pub rows : List (List (List ℕ))
  pub order : List ℕ

-- the rows of a lane
abbrev pub lane_rows : Certificate → ℕ → List (List ℕ)
lane_rows c l = slice_index_or c.rows l []

-- a row stands behind what teaches its lane
abbrev pub learns : Instruction → Bool
learns = teaches

-- the numbers of such instructions, where the first has this number
abbrev pub places_from : ℕ → List Instruction → List ℕ
places_from number xs = map (λ x. x.0) (filter (λ x. learns x.1) (enumerate_from number xs))

-- the first instruction of a lane has the number 1
abbrev pub row_places : Lane → List ℕ
row_places of = places_from 1 of.instructions

-- how many rows a lane has
abbrev pub count_rows : Lane → ℕ
count_rows of = count_by learns of.instructions

-- a word for each name, with bits of its variants alone, none of them in the initial archive
pub record IsNewRow (u : Universe) (row : List ℕ) : Type 0 where
  pub long : length row ≡ names u
  pub known : (n b : ℕ) → variants_of row n b ≡ true → b < variants u n
  pub new : (n b : ℕ) → variants_of row n b ≡ true → initial u (variant n b) ≡ false

-- a row behind each wait, publish and `when`, and lanes of the plan in the order
pub record IsCertificate (u : Universe) (p : Plan) (c : Certificate) : Type 0 where
  pub lanes : length c.rows ≡ length p
  pub counts : (l : ℕ) → l < length p → length (lane_rows c l) ≡ count_rows (lane p l)
  pub rows : (l : ℕ) → All (IsNewRow u) (lane_rows c l)
  pub order : All (λ l. l < length p) c.order
