-- The rows of the clashes of recipes. The project's own words.
--
--   AreClashes     the row of each recipe, or none where no variant clashes with it
use Rattle.std.specs.Prelude.{◌≡◌, ℕ, ◌<◌, List, length, Option, None, slice_index_or}
use Rattle.farm_model.specs.Common.{Universe, recipe, satisfies_any}
use Rattle.sat_rows.specs.Rows.{IsSharedRow}

-- each recipe has its row in the place of its number
pub record AreClashes (u : Universe) (rows : List (Option (List ℕ))) : Type 0 where
  pub long : length rows ≡ length u.recipes
  pub each : (r : ℕ) → r < length u.recipes
      → IsSharedRow u (satisfies_any u (recipe u r).clashes) (slice_index_or rows r None)
