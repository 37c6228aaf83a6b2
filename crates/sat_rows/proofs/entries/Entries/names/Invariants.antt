use Rattle.std.proofs.Common.{◌≡◌, ℕ, ◌<◌, [], length, get_or}
use Rattle.sat_rows.specs.ByVariant.{AreValuesOfName}
use Rattle.sat_rows.specs.Entries.{IsGrown, AreNumbers, no_numbers}
use Rattle.sat_rows.proofs.entries.Entries.names.Given as goal

-- the names so far
abbrev pub invariant-loop-name : goal.invariant-loop-name
invariant-loop-name l =
    IsGrown l.fn.self l.self
    × (length l.names.items ≡ l.name)
    × ((n : ℕ) → n < l.name
    → AreValuesOfName l.universe (AreNumbers l.universe l.self) no_numbers n
    (get_or l.names.items n []))
