-- What the tables of the code stand for.
use Rattle.std.specs.Prelude.{◌≡◌, ℕ, ◌≤◌, true, List, map, length, slice_get, slice_range, if◌then◌else◌, Option, Some, None}
use Rattle.std.specs.List.{find, list_all}
use Rattle.std.specs.Option.{option_map}
use Rattle.deb_text.specs.declared.lines.Line as declared
use Rattle.deb_text.specs.Lines.{Line}
use Rattle.deb_stanza.specs.declared.plain.Place.{Place}
use Rattle.deb_stanza.specs.declared.table.Start.{Start}
use Rattle.deb_stanza.specs.declared.table.Table.{Table}
use Rattle.deb_stanza.specs.Cut.{cut, IsCut}
use Rattle.deb_stanza.specs.Keys.{has_colon, text_key}
use Rattle.deb_stanza.specs.Stanza.{Paragraph, field_of, name_of, same_name}

abbrev pub line_of : declared.Line → Line
line_of l = (l.number, l.bytes.now)

-- a line that is kept by its place in the text
abbrev pub line_in : List ℕ → Place → Line
line_in text at = (at.number, slice_range text at.start at.end)

-- each line lies in the text
abbrev pub AreWithin : List ℕ → List Place → Type 0
AreWithin text places =
    (i : ℕ) (at : Place) → slice_get places i ≡ Some at
    → (at.start ≤ at.end) × (at.end ≤ length text)

-- a paragraph whose fields are not yet taken apart
pub record Raw : Type 0 where
  pub line : ℕ
  pub texts : List (List ℕ)

abbrev pub paragraph_of_raw : Raw → Paragraph
paragraph_of_raw raw = record { line = raw.line; fields = map field_of raw.texts }

abbrev pub first_of_start : Start → ℕ
first_of_start s = s.first

abbrev pub raw_of : Start → List (List ℕ) → Raw
raw_of s texts = record { line = s.line; texts = texts }

-- a field is kept as the place where it begins
abbrev pub own : ℕ → ℕ
own start = start

abbrev pub texts_in : List ℕ → List ℕ → List (List ℕ)
texts_in bytes fields = cut own (λ start text. text) bytes fields

abbrev pub raws_in : List ℕ → List ℕ → List Start → List Raw
raws_in bytes fields paragraphs = cut first_of_start raw_of (texts_in bytes fields) paragraphs

abbrev pub table_texts : Table → List (List ℕ)
table_texts t = texts_in t.bytes.items t.fields.items

abbrev pub table_raws : Table → List Raw
table_raws t = raws_in t.bytes.items t.fields.items t.paragraphs.items

-- no field is without a byte, and no paragraph without a field; each field has a colon, and its key
pub record IsSoundTable (t : Table) : Type 0 where
  pub fields : IsCut own (length t.bytes.items) t.fields.items
  pub paragraphs : IsCut first_of_start (length t.fields.items) t.paragraphs.items
  pub keys : t.keys.items ≡ map text_key (table_texts t)
  pub colons : list_all has_colon (table_texts t) ≡ true

abbrev pub table_paragraphs : Table → List Paragraph
table_paragraphs t = map paragraph_of_raw (table_raws t)

-- ---- look-ups

abbrev pub value_named : List ℕ → List ℕ → Option (List ℕ)
value_named name text = if same_name name (name_of text) then Some (field_of text).value else None

abbrev pub value_among : List ℕ → List (List ℕ) → Option (List ℕ)
value_among name texts =
    option_map (λ field. field.value)
    (find (λ field. same_name name field.name) (map field_of texts))
