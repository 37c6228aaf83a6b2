use Rattle.std.proofs.Common.{take}
use Rattle.std.specs.List.{AllZip}
use Rattle.sat_rows.specs.Entries.{IsGrown, IsNumberOf}
use Rattle.sat_rows.proofs.entries.Entries.field.Given as goal

-- the entries so far
abbrev pub invariant-loop-entry : goal.invariant-loop-entry
invariant-loop-entry l =
    IsGrown l.fn.self l.self
    × AllZip (IsNumberOf l.self) (take l.entry-index l.entry-items) l.numbers.items
