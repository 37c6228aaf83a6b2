use Rattle.sat_rows.specs.Entries.{IsGrown}
use Rattle.sat_rows.proofs.NoteLaws.{AddsFirst}
use Rattle.sat_rows.proofs.entries.Entries.note_field.Given as goal

-- the entries so far
abbrev pub invariant-loop-entry : goal.invariant-loop-entry
invariant-loop-entry l =
    IsGrown l.fn.self l.self
    × AddsFirst l.self l.entry-items l.bit l.entry-index l.fn.found l.found
