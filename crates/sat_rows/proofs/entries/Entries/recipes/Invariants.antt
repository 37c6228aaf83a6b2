use Rattle.std.proofs.Common.{◌≡◌, ℕ, ◌<◌, [], length, get_or}
use Rattle.std.specs.List.{AllZip}
use Rattle.farm_model.specs.Packages.{recipe}
use Rattle.sat_rows.specs.Entries.{IsGrown, IsNumberOf}
use Rattle.sat_rows.proofs.entries.Entries.recipes.Given as goal

-- the recipes so far
abbrev pub invariant-loop-number : goal.invariant-loop-number
invariant-loop-number l =
    IsGrown l.fn.self l.self
    × (length l.recipes.items ≡ l.number)
    × ((r : ℕ) → r < l.number
    → AllZip (IsNumberOf l.self) (recipe l.universe r).needs (get_or l.recipes.items r []))
