-- A paragraph under another version: which of its bytes may be others.
--
--   closed block               the block, with a newline at its end
--   GetsBehind Is old new      a text has got a piece behind it, and the piece is one of those
--   is_one_line text           the text has no newline
--   is_inside text             it has no newline and no bracket
--   IsReversioned row new      what stands before a colon is the same, and what comes to stand after
--                              it is one line
--   IsReplaced old new         what stands in a bracket is the same, or it is such a text, and what
--                              comes in its place too
--   IsRenamed row new          what stands outside of brackets is the same, and what stands in each
--                              is replaced in this way
--   field_of name              what is done with the lines of the field of a name
--   field_at row field         the same of a line behind lines of a field
--   IsRowOf field row new      what a line of a field comes to
--   AreRowsOf field rows text  the text has what the lines come to, each with a newline, behind lines
--                              of a field
use Rattle.std.specs.Prelude.{◌≡◌, ℕ, Bool, true, not, ◌||◌, ◌==◌, List, [], ◌∷◌, ◌++◌, codes, if◌then◌else◌, ◌⊎◌}
use Rattle.std.specs.List.{list_all, list_any, ends_with}
use Rattle.std.specs.Str.{str_eq_ignore_ascii_case}
use Rattle.deb_text.specs.Common.{is_byte, before, first_is}
use Rattle.import_farm.specs.declared.rewriting.Field.{Field}
use Rattle.import_farm.specs.declared.rewriting.Field.TheVariants.{Kept, Version, Relations}

abbrev pub closed : List ℕ → List ℕ
closed block =
    if ends_with (λ a b. a == b) block (10 ∷ []) then block else block ++ 10 ∷ []

abbrev pub GetsBehind : (List ℕ → Type 0) → List ℕ → List ℕ → Type 0
GetsBehind Is old new = (piece : List ℕ) × (new ≡ old ++ piece) × Is piece

-- no newline
abbrev pub is_line_byte : ℕ → Bool
is_line_byte b = not (b == 10)

abbrev pub is_one_line : List ℕ → Bool
is_one_line text = list_all is_line_byte text

-- no newline, no `(` and no `)`
abbrev pub is_inside_byte : ℕ → Bool
is_inside_byte b = not (b == 10 || b == 40 || b == 41)

abbrev pub is_inside : List ℕ → Bool
is_inside text = list_all is_inside_byte text

-- a line `NAME: VERSION` with another version, or as it stands
abbrev pub IsReversioned : List ℕ → List ℕ → Type 0
IsReversioned row new =
    (new ≡ row)
    ⊎ ((name : List ℕ) × (value : List ℕ) × (other : List ℕ)
    × (row ≡ name ++ 58 ∷ value) × (new ≡ name ++ 58 ∷ other) × (is_one_line other ≡ true))

abbrev pub IsReplaced : List ℕ → List ℕ → Type 0
IsReplaced old new = (new ≡ old) ⊎ ((is_inside old ≡ true) × (is_inside new ≡ true))

-- what stands before a bracket, in it, and what comes to stand in it
pub record Bracket : Type 0 where
  pub front : List ℕ
  pub old : List ℕ
  pub new : List ℕ
  pub replaced : IsReplaced old new

-- a line that ends in this way behind brackets, as it was and as it comes to be
abbrev pub with_old : List Bracket → List ℕ → List ℕ
with_old [] end = end
with_old (b ∷ bs) end = b.front ++ 40 ∷ (b.old ++ 41 ∷ with_old bs end)

abbrev pub with_new : List Bracket → List ℕ → List ℕ
with_new [] end = end
with_new (b ∷ bs) end = b.front ++ 40 ∷ (b.new ++ 41 ∷ with_new bs end)

abbrev pub IsRenamed : List ℕ → List ℕ → Type 0
IsRenamed row new =
    (brackets : List Bracket) × (end : List ℕ)
    × (row ≡ with_old brackets end) × (new ≡ with_new brackets end)

-- `Version`, and the five relation fields that are rewritten, whatever the case of their letters
abbrev pub is_relation : List ℕ → Bool
is_relation name =
    str_eq_ignore_ascii_case name (codes "pre-depends")
    || str_eq_ignore_ascii_case name (codes "depends")
    || str_eq_ignore_ascii_case name (codes "conflicts")
    || str_eq_ignore_ascii_case name (codes "breaks")
    || str_eq_ignore_ascii_case name (codes "provides")

abbrev pub field_of : List ℕ → Field
field_of name =
    if str_eq_ignore_ascii_case name (codes "version") then Version
    else if is_relation name then Relations else Kept

-- a line that begins with a space, a tab or `#` belongs to the field of the lines before it
abbrev pub goes_on : ℕ → Bool
goes_on b = b == 32 || b == 9 || b == 35

abbrev pub field_at : List ℕ → Field → Field
field_at row field =
    if first_is goes_on row || not (list_any (is_byte 58) row) then field
    else field_of (before (is_byte 58) row)

abbrev pub IsRowOf : Field → List ℕ → List ℕ → Type 0
IsRowOf Kept row new = new ≡ row
IsRowOf Version row new = IsReversioned row new
IsRowOf Relations row new = IsRenamed row new

abbrev pub AreRowsOf : Field → List (List ℕ) → List ℕ → Type 0
AreRowsOf field [] text = text ≡ []
AreRowsOf field (row ∷ rows) text =
    (new : List ℕ) × (rest : List ℕ) × (text ≡ new ++ 10 ∷ rest)
    × IsRowOf (field_at row field) row new × AreRowsOf (field_at row field) rows rest
