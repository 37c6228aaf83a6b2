use Rattle.std.proofs.Common.{List}
use Rattle.std.specs.List.{AllZip}
use Rattle.deb_relation.specs.Relations.{Entry, Relations}
use Rattle.sat_rows.specs.Entries.{IsNumberOf}
use Rattle.sat_rows.proofs.NoteLaws.{AddsFirst}
use Rattle.sat_rows.proofs.wanted.note_entries.Given as goal

-- the entries so far
abbrev pub invariant-loop-number : goal.invariant-loop-number
invariant-loop-number l =
    (entries : List Entry) (field : Relations) → AllZip (IsNumberOf entries) field l.numbers
    → AddsFirst entries field l.bit l.number-index l.fn.found l.found
