-- The notes on what nothing in a farm meets.
--
--   note_on asker words giver    a line on an entry of these words: who asks for it, and which source
--                                gives what would meet it, if the indexes have something that does
--   IsNoteOf need line           a line on the entry of a need
--   AreNotesOf unmet lines       each line is on one of these needs, and each need has a line
--   IsPieceOf unmet piece        a piece of text is of such lines
--   HasNotes unmet text          the text has such a piece
use Rattle.std.specs.Prelude.{◌≡◌, ℕ, List, [], ◌∷◌, ◌++◌, All, codes}
use Rattle.std.specs.List.{Contains, concat}
use Rattle.deb_relation.specs.Common.{Entry, entry_text}
use Rattle.farm_lookup.specs.declared.needs.Unmet.{Unmet}

abbrev pub note_on : List ℕ → List ℕ → List ℕ → List ℕ
note_on asker words giver =
    codes "note: "
    ++ (asker ++ (codes ": " ++ (words ++ (codes " is met by nothing" ++ (giver ++ 10 ∷ [])))))

abbrev pub IsNoteOn : List ℕ → List ℕ → Type 0
IsNoteOn words line = (asker : List ℕ) × (giver : List ℕ) × (line ≡ note_on asker words giver)

abbrev pub IsNoteOf : Unmet → List ℕ → Type 0
IsNoteOf need line = IsNoteOn (entry_text need.entry) line

abbrev pub IsNoteOfOne : List Unmet → List ℕ → Type 0
IsNoteOfOne unmet line = (need : Unmet) × Contains unmet need × IsNoteOf need line

abbrev pub HasNoteOn : List (List ℕ) → List ℕ → Type 0
HasNoteOn lines words = (line : List ℕ) × Contains lines line × IsNoteOn words line

-- entries of the same words may have one line together
pub record AreNotesOf (unmet : List Unmet) (lines : List (List ℕ)) : Type 0 where
  pub only : All (λ line. IsNoteOfOne unmet line) lines
  pub each : All (λ need. HasNoteOn lines (entry_text need.entry)) unmet

abbrev pub IsPieceOf : List Unmet → List ℕ → Type 0
IsPieceOf unmet piece =
    (lines : List (List ℕ)) × (piece ≡ concat lines) × AreNotesOf unmet lines

abbrev pub HasNotes : List Unmet → List ℕ → Type 0
HasNotes unmet text =
    (front : List ℕ) × (notes : List ℕ) × (rest : List ℕ)
    × (text ≡ front ++ (notes ++ rest)) × IsPieceOf unmet notes
