-- The name and the version of a source, which Sources indexes call Package and Version.
--
--   source_at p    what a paragraph says
use Rattle.std.specs.Prelude.{ℕ, List, codes, Result, Ok, ok_or}
use Rattle.deb_text.specs.Steps.{◌>>=◌, or_else}
use Rattle.deb_stanza.specs.Stanza.{Paragraph, value_of}
use Rattle.deb_fields.specs.declared.error.TheConstants.{ABSENT}
use Rattle.deb_fields.specs.Fields.{name_at, needed_at}
use Rattle.import_closure.specs.Version.{version_text_at}
use Rattle.import_closure.specs.declared.source_paragraph.Source as declared

pub record Source : Type 0 where
  pub name : List ℕ
  pub version : List ℕ

abbrev pub source_view : declared.Source → Source
source_view source = record { name = source.name.items; version = source.version }

-- Package, or else Source, as a .dsc file has it
abbrev pub name_in : Paragraph → Result (List ℕ) ℕ
name_in p = ok_or (or_else (value_of p (codes "Package")) (value_of p (codes "Source"))) ABSENT

unfoldable pub source_at : Paragraph → Result Source ℕ
source_at p = do
  given ← name_in p
  name ← name_at given
  written ← needed_at p (codes "Version")
  version ← version_text_at written
  Ok (record { name = name; version = version })
