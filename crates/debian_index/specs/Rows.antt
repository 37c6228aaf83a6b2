-- The rows of a text: its lines, each with its newline, which the last may lack. Only clauses of
-- private functions cite this file.
--
--   row_size text               how many bytes the first row has
--   AreRows text size lines     the text begins with so many bytes of so many lines
--   IsFront text size lines     these are all lines before a blank one, or all
--   AreFilled text size         none of the lines of so many bytes is blank
use Rattle.std.specs.Prelude.{◌≡◌, ℕ, suc, ◌<◌, ◌≤◌, Bool, true, false, List, [], ◌∷◌, length, take, drop, if◌then◌else◌}
use Rattle.std.specs.List.{list_any}
use Rattle.deb_text.specs.Common.{is_newline, lines_of, is_blank_line}

abbrev pub row_size : List ℕ → ℕ
row_size [] = 0
row_size (b ∷ bs) = if is_newline b then 1 else suc (row_size bs)

-- empty, or its last byte is a newline
abbrev pub is_closed : List ℕ → Bool
is_closed [] = true
is_closed (b ∷ []) = is_newline b
is_closed (b ∷ c ∷ cs) = is_closed (c ∷ cs)

-- there is no line, or the first is blank
abbrev pub stops : List (List ℕ) → Bool
stops [] = true
stops (line ∷ ls) = is_blank_line line

pub record AreRows (text : List ℕ) (size lines : ℕ) : Type 0 where
  pub within : size ≤ length text
  pub closed : size < length text → is_closed (take size text) ≡ true
  pub count : lines ≡ length (lines_of (take size text))
  pub few : lines ≤ size

pub record IsFront (text : List ℕ) (size lines : ℕ) : Type 0 where
  pub front : AreRows text size lines
  pub end : stops (lines_of (drop size text)) ≡ true

abbrev pub AreFilled : List ℕ → ℕ → Type 0
AreFilled text size = list_any is_blank_line (lines_of (take size text)) ≡ false
