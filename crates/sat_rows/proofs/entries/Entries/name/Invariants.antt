use Rattle.std.proofs.Common.{◌≡◌, ℕ, ◌<◌, length, get_or}
use Rattle.farm_model.specs.Packages.{variant}
use Rattle.sat_rows.specs.Entries.{IsGrown, AreNumbers, no_numbers}
use Rattle.sat_rows.proofs.entries.Entries.name.Given as goal

-- the variants so far
abbrev pub invariant-loop-bit : goal.invariant-loop-bit
invariant-loop-bit l =
    IsGrown l.fn.self l.self
    × (length l.variants.items ≡ l.bit)
    × ((b : ℕ) → b < l.bit
    → AreNumbers l.universe l.self (variant l.name b) (get_or l.variants.items b no_numbers))
