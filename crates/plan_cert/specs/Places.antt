-- The rows of the places of each lane, as they are kept. The project's own words. Parameters: u a
-- universe, p a plan, known what its lanes know.
--
--   AreRowsOfLanes       the rows at the places of the lanes below n
--   HaveKnown            rows of known variants at the places of a plan
use Rattle.std.specs.Prelude.{◌≡◌, ℕ, ◌<◌, ◌≤◌, true, List, [], length, slice_index_or}
use Rattle.farm_model.specs.Common.{Universe, IsKnown}
use Rattle.farm_model.specs.declared.types.Variant.{Variant}
use Rattle.plan_model.specs.Common.{Plan, lane, Rows}
use Rattle.plan_cert.specs.PlaceRows.{AreRowNumbers}

-- of each lane below n, for each place the number of its row
pub record AreRowsOfLanes (u : Universe) (p : Plan) (known : Rows) (n : ℕ)
    (places rows : List (List ℕ))
    : Type 0 where
  pub long : length places ≡ n
  pub each : (l : ℕ) → l < n → AreRowNumbers u (known l) (length (lane p l).instructions)
      (slice_index_or places l []) rows

-- each variant that a lane knows is one of the universe
abbrev pub HaveKnown : Universe → Plan → Rows → Type 0
HaveKnown u p known =
    (l i : ℕ) (v : Variant) → l < length p → i ≤ length (lane p l).instructions
    → known l i v ≡ true → IsKnown u v
