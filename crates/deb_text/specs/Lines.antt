-- The lines of a text, their numbers, and the lines that are skipped.
use Rattle.std.specs.Prelude.{ℕ, Bool, not, ◌||◌, List, [], ◌∷◌, if◌then◌else◌, filter}
use Rattle.std.specs.List.{onto_first, list_all, enumerate_from}
use Rattle.deb_text.specs.Bytes.{is_byte, is_newline, is_space}
use Rattle.deb_text.specs.Cuts.{first_is}

-- each line ends at a newline, which the last may lack
unfoldable pub lines_of : List ℕ → List (List ℕ)
lines_of [] = []
lines_of (b ∷ bs) = if is_newline b then [] ∷ lines_of bs else onto_first b (lines_of bs)

-- a number, and the bytes of the line
abbrev pub Line : Type 0
Line = ℕ × List ℕ

-- a comment begins with `#`, at the line's own first byte
abbrev pub is_comment : List ℕ → Bool
is_comment line = first_is (is_byte 35) line

-- empty, or of spaces and tabs alone
abbrev pub is_blank_line : List ℕ → Bool
is_blank_line line = list_all is_space line

abbrev pub is_skipped : List ℕ → Bool
is_skipped line = is_comment line || is_blank_line line

-- the lines of the text that are kept, where the first line has this number
abbrev pub lines_kept : (List ℕ → Bool) → ℕ → List ℕ → List Line
lines_kept keeps number text = filter (λ line. keeps line.1) (enumerate_from number (lines_of text))

-- the lines that are no comments
abbrev pub control_lines : ℕ → List ℕ → List Line
control_lines number text = lines_kept (λ line. not (is_comment line)) number text

-- the lines that are neither blank nor comments
abbrev pub plain_lines : ℕ → List ℕ → List Line
plain_lines number text = lines_kept (λ line. not (is_skipped line)) number text
