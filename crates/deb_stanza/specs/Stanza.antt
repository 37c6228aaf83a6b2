-- The paragraphs of a text, by Debian Policy 5.1, and its first fault.
--
--   Paragraph           a paragraph: its fields, and the number of its first line
--   value_of p name     the value of a field
--   parts lines         the lines of each paragraph
--   fault_of before l   what is wrong with a line, behind the lines before it
--   paragraphs_at text  the paragraphs of a text, or its first fault
use Rattle.std.specs.Prelude.{ℕ, Bool, not, ◌&&◌, nat_le, nat_lt, slice_index_or, List, [], ◌∷◌, ◌++◌, length, map, filter, if◌then◌else◌, Option, Some, None, Result, Err}
use Rattle.std.specs.List.{list_all, list_any, slice_split, flat_map, find}
use Rattle.std.specs.Option.{option_map}
use Rattle.std.specs.Str.{str_eq_ignore_ascii_case}
use Rattle.deb_text.specs.Common.{fault_at, is_byte, is_space, is_nil, first_is, before, after, trimmed, Line, is_blank_line, control_lines, judged, or_else}
use Rattle.deb_text.specs.declared.fault.Fault.{Fault}
use Rattle.deb_stanza.specs.declared.error.TheConstants.{CONTINUES_NO_FIELD, NO_COLON, BAD_FIELD_NAME, FIELD_TWICE, TEXT_TOO_LONG, MOST_BYTES}

pub record Field : Type 0 where
  pub name : List ℕ
  pub value : List ℕ

-- the number of its first line, and its fields
pub record Paragraph : Type 0 where
  pub line : ℕ
  pub fields : List Field

-- "Field names are not case-sensitive" (Policy 5.1): but for the case of ASCII letters
abbrev pub same_name : List ℕ → List ℕ → Bool
same_name a b = str_eq_ignore_ascii_case a b

abbrev pub value_of : Paragraph → List ℕ → Option (List ℕ)
value_of p name =
    option_map (λ field. field.value) (find (λ field. same_name name field.name) p.fields)

-- the paragraph with this number, the first being 0
abbrev pub paragraph_at : List Paragraph → ℕ → Paragraph
paragraph_at ps i = slice_index_or ps i record { line = 0; fields = [] }

-- ---- lines

-- empty, or of spaces and tabs alone: it separates paragraphs
abbrev pub separates : Line → Bool
separates l = is_blank_line l.1

-- a line that goes on with the field before it, where it does not separate
abbrev pub continues : Line → Bool
continues l = first_is is_space l.1

abbrev pub is_colon : ℕ → Bool
is_colon b = is_byte 58 b

-- U+0021 to U+0039 and U+003B to U+007E, and no hyphen in front (Policy 5.1)
abbrev pub is_field_name : List ℕ → Bool
is_field_name name =
    not (is_nil name) && not (first_is (is_byte 45) name)
    && list_all (λ b. nat_le 33 b && nat_le b 126) name

-- ---- fields

-- the lines in front that continue a field
abbrev pub continuation : List Line → List Line
continuation ls = before (λ l. not (continues l)) ls

-- the text of a field: its line, and behind it each line that continues it, after a newline
abbrev pub field_text : Line → List Line → List ℕ
field_text l more = l.1 ++ flat_map (λ m. 10 ∷ m.1) more

-- the texts of the fields of these lines
abbrev pub texts_of : List Line → List (List ℕ)
texts_of [] = []
texts_of (l ∷ ls) =
    if continues l then texts_of ls else field_text l (continuation ls) ∷ texts_of ls

-- the name stands before the first colon, the value behind it
abbrev pub name_of : List ℕ → List ℕ
name_of text = before is_colon text

abbrev pub field_of : List ℕ → Field
field_of text = record { name = name_of text; value = trimmed (after is_colon text) }

-- ---- paragraphs

-- the parts of the lines between those that separate; the last is the open one, to which the next
-- line belongs
abbrev pub parts : List Line → List (List Line)
parts ls = slice_split separates ls

abbrev pub last_part_of : {X : Type 0} → List (List X) → List X
last_part_of [] = []
last_part_of (q ∷ []) = q
last_part_of (q ∷ r ∷ qs) = last_part_of (r ∷ qs)

abbrev pub open_part : List Line → List Line
open_part ls = last_part_of (parts ls)

abbrev pub first_number : List Line → ℕ
first_number [] = 0
first_number (l ∷ ls) = l.0

abbrev pub paragraph_of : List Line → Paragraph
paragraph_of ls = record { line = first_number ls; fields = map field_of (texts_of ls) }

-- the paragraphs: the parts that have a line
abbrev pub paragraphs_of : List Line → List Paragraph
paragraphs_of ls = map paragraph_of (filter (λ part. not (is_nil part)) (parts ls))

-- ---- faults

-- it has no colon, or what stands before the first one is no name
abbrev pub name_fault : List ℕ → Option ℕ
name_fault line =
    if not (list_any is_colon line) then Some NO_COLON
    else (if not (is_field_name (name_of line)) then Some BAD_FIELD_NAME else None)

-- why a line begins no field, where its paragraph has fields of these names: one of that name is
-- there
abbrev pub head_fault : List (List ℕ) → List ℕ → Option ℕ
head_fault given line =
    or_else (name_fault line)
    (if list_any (same_name (name_of line)) given then Some FIELD_TWICE else None)

-- why a line is refused, where the fields of its paragraph have these names: it continues no field,
-- or begins none
abbrev pub line_refusal : Bool → List (List ℕ) → Line → Option ℕ
line_refusal is_open given l =
    if separates l then None
    else (if continues l then (if is_open then None else Some CONTINUES_NO_FIELD)
    else head_fault given l.1)

-- a code told at a line; the file is known to the caller alone
abbrev pub told_at : ℕ → Option ℕ → Option Fault
told_at line code = option_map (fault_at 0 line) code

-- what is wrong with a line, behind the lines before it
abbrev pub fault_of : List Line → Line → Option Fault
fault_of before l =
    told_at l.0
    (line_refusal (not (is_nil (open_part before))) (map name_of (texts_of (open_part before))) l)

-- the paragraphs of a text, or its first fault; that it is too long is told at line 0
unfoldable pub paragraphs_at : List ℕ → Result (List Paragraph) Fault
paragraphs_at text =
    if nat_lt MOST_BYTES (length text) then Err (fault_at 0 0 TEXT_TOO_LONG)
    else judged fault_of paragraphs_of (control_lines 1 text)
