use Rattle.std.proofs.Common.{◌≡◌, ℕ, ◌<◌, length}
use Rattle.farm_model.specs.Packages.{variants}
use Rattle.sat_rows.specs.Entries.{IsGrown}
use Rattle.sat_rows.specs.Links.{nth_list, IsNumbered}
use Rattle.sat_rows.proofs.entries.Entries.noted.Given as goal

-- the names so far
abbrev pub invariant-loop-name : goal.invariant-loop-name
invariant-loop-name g l =
    IsGrown l.fn.self l.self
    × (length l.lists.items ≡ l.name)
    × ((n : ℕ) → n < l.name
    → IsNumbered l.universe g.F.Field.field l.self n (variants l.universe n)
    (nth_list l.lists.items n))
