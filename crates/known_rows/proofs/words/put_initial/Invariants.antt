use Rattle.std.proofs.Common.{◌≡◌, ℕ, ◌<◌, length}
use Rattle.bit_rows.specs.Sets.{variants_of}
use Rattle.farm_model.specs.Packages.{names, initial}
use Rattle.sat_rows.specs.Rows.{variant_passes}
use Rattle.known_rows.proofs.words.put_initial.Given as goal

-- the names so far
abbrev pub invariant-loop-name : goal.invariant-loop-name
invariant-loop-name l =
    (length l.words ≡ names l.universe)
    × ((n b : ℕ) → n < l.name → variants_of l.words n b
    ≡ variant_passes l.universe (initial l.universe) n b)
