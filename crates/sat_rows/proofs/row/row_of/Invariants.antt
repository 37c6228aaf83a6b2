use Rattle.std.proofs.Common.{◌≡◌, ℕ, ◌<◌, length}
use Rattle.bit_rows.specs.Sets.{variants_of}
use Rattle.farm_model.specs.Packages.{names}
use Rattle.sat_rows.specs.Rows.{variant_passes}
use Rattle.sat_rows.proofs.row.row_of.Given as goal

-- the names so far
abbrev pub invariant-loop-name : goal.invariant-loop-name
invariant-loop-name g l =
    (length l.row ≡ names l.universe)
    × ((n b : ℕ) → n < l.name → variants_of l.row n b
    ≡ variant_passes l.universe (λ v. g.T.VariantTest.test l.universe l.test v) n b)
