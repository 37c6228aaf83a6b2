-- How the reader goes from line to line. Only clauses of private functions cite this file.
use Rattle.std.specs.Prelude.{◌≡◌, ℕ, Bool, true, false, not, List, [], ◌∷◌, ◌++◌, map, filter, length, ◌+◌, ◌<◌, ◌^◌, if◌then◌else◌, drop, Option, IfSome, Result}
use Rattle.std.specs.List.{list_any, list_all}
use Rattle.deb_text.specs.Common.{Line, answer, is_nil}
use Rattle.deb_text.specs.declared.fault.Fault.{Fault}
use Rattle.deb_stanza.specs.declared.draft.Draft.{Draft}
use Rattle.deb_stanza.specs.declared.names.Names.{Names}
use Rattle.deb_stanza.specs.declared.table.Table.{Table}
use Rattle.deb_stanza.specs.Cut.{onto_last}
use Rattle.deb_stanza.specs.Keys.{StandBelow}
use Rattle.deb_stanza.specs.Names.{HasNames}
use Rattle.deb_stanza.specs.Stanza.{is_colon, name_of, separates, continues, line_refusal, told_at, first_number, texts_of, parts, open_part}
use Rattle.deb_stanza.specs.View.{Raw, table_raws, table_texts, IsSoundTable}

-- the paragraphs so far, and whether the last one is open
pub record State : Type 0 where
  pub raws : List Raw
  pub is_open : Bool

abbrev pub last_texts : List Raw → List (List ℕ)
last_texts [] = []
last_texts (p ∷ []) = p.texts
last_texts (p ∷ q ∷ ps) = last_texts (q ∷ ps)

-- the texts of the open paragraph's fields
abbrev pub open_texts : State → List (List ℕ)
open_texts s = if s.is_open then last_texts s.raws else []

abbrev pub open_names : State → List (List ℕ)
open_names s = map name_of (open_texts s)

-- the last field goes on with a line
abbrev pub longer : List ℕ → Raw → Raw
longer line p = record p { texts = onto_last (λ text. text ++ 10 ∷ line) p.texts }

-- a paragraph gets a field
abbrev pub larger : List ℕ → Raw → Raw
larger text p = record p { texts = p.texts ++ text ∷ [] }

abbrev pub with_head : State → Line → State
with_head s l =
    record {
      raws =
          if s.is_open then onto_last (larger l.1) s.raws
          else s.raws ++ record { line = l.0; texts = l.1 ∷ [] } ∷ [];
      is_open = true;
    }

abbrev pub with_line : State → Line → State
with_line s l =
    if separates l then record s { is_open = false }
    else (if continues l then record s { raws = onto_last (longer l.1) s.raws } else with_head s l)

abbrev pub draft_step : State → Line → Result State Fault
draft_step s l = answer (told_at l.0 (line_refusal s.is_open (open_names s) l)) (with_line s l)

abbrev pub draft_state : Draft → State
draft_state d = record { raws = table_raws d.table; is_open = d.is_open }

-- what these lines have made of it
abbrev pub raw_part : List Line → Raw
raw_part ls = record { line = first_number ls; texts = texts_of ls }

abbrev pub state_of : List Line → State
state_of ls = record {
  raws = map raw_part (filter (λ part. not (is_nil part)) (parts ls));
  is_open = not (is_nil (open_part ls));
}

-- ---- what the code keeps true

-- the names of the fields from this one on
abbrev pub names_from : Table → ℕ → List (List ℕ)
names_from t field = map name_of (drop field (table_texts t))

-- the set, where there is one, has the names of these texts, and each text has a colon
pub record HasFieldNames (set : Option Names) (texts : List (List ℕ)) : Type 0 where
  pub names : IfSome set (λ names. HasNames names (map name_of texts))
  pub colons : list_all (λ text. list_any is_colon text) texts ≡ true

pub record IsFitDraft (d : Draft) : Type 0 where
  pub table : IsSoundTable d.table
  pub known : HasFieldNames d.names (open_texts (draft_state d))
  pub some : d.is_open ≡ true → is_nil d.table.paragraphs.items ≡ false
  pub latest : StandBelow d.latest.counts d.table.keys.items

-- where the file's bytes end, 2 ^ 32 at most
abbrev pub HasRoom : Draft → List ℕ → Type 0
HasRoom d line = length d.table.bytes.items + length line + 1 < 2 ^ 32
