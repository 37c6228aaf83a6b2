use Rattle.std.proofs.Common.{◌≡◌, ℕ, ◌<◌, length, take}
use Rattle.bit_rows.specs.Sets.{variants_of}
use Rattle.farm_model.specs.Packages.{names}
use Rattle.sat_rows.specs.Found.{among}
use Rattle.sat_rows.proofs.row.row_of_found.Given as goal

abbrev pub invariant-loop-found : goal.invariant-loop-found
invariant-loop-found l =
    (length l.row ≡ names l.universe)
    × ((n b : ℕ) → n < length l.row
    → variants_of l.row n b ≡ among (take l.found-index l.found-items) n b)
