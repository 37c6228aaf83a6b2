-- The lines of a text that are neither blank nor comments.
use Rattle.std.specs.Prelude.{ℕ, nat_lt, slice_index_or, List, [], length, if◌then◌else◌, Result, Ok, Err}
use Rattle.deb_text.specs.Common.{fault_at, Line, plain_lines}
use Rattle.deb_text.specs.declared.fault.Fault.{Fault}
use Rattle.deb_stanza.specs.declared.error.TheConstants.{TEXT_TOO_LONG, MOST_BYTES}

-- untrimmed, with their numbers in the text; that it is too long is told at line 0
abbrev pub plain_lines_at : List ℕ → Result (List Line) Fault
plain_lines_at text =
    if nat_lt MOST_BYTES (length text) then Err (fault_at 0 0 TEXT_TOO_LONG)
    else Ok (plain_lines 1 text)

-- the line with this place, the first being 0
abbrev pub line_at : List Line → ℕ → Line
line_at ls i = slice_index_or ls i (0, [])
