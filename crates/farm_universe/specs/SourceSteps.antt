-- How the reader of the sources text goes on. Only the contracts of private functions cite this
-- file.
--
--   put_source          the table with one more source, where its name's number is known
--   add_source, add_source_paragraph     the table after a source, and after a paragraph
use Rattle.std.specs.Prelude.{ℕ, ◌+◌, List, [], ◌∷◌, ◌++◌, Option, Result}
use Rattle.std.specs.Str.{bytes_eq}
use Rattle.deb_text.specs.Common.{place_in, answer, read_step}
use Rattle.deb_text.specs.declared.fault.Fault.{Fault}
use Rattle.deb_text.specs.declared.files.TheConstants.{SOURCES}
use Rattle.deb_stanza.specs.Stanza.{Paragraph}
use Rattle.farm_universe.specs.declared.sources.Source.{Source}
use Rattle.farm_universe.specs.Keyed.{keys_with, group_at, groups_with}
use Rattle.farm_universe.specs.PackagesText.{first_code}
use Rattle.farm_universe.specs.SourcesText.{ListedSource, SourceTable, source_at, source_rules}
use Rattle.farm_universe.specs.Told.{told}

-- a source behind others
abbrev pub behind_others : Source → List Source → List Source
behind_others source given = given ++ source ∷ []

-- a source of the name with this number, or of a new name
abbrev pub put_source : SourceTable → Option ℕ → ListedSource → SourceTable
put_source table at p = record {
  names = keys_with table.names at p.name;
  sources = groups_with (behind_others p.source) table.sources at;
  count = table.count + 1;
}

-- what is wrong with a source of the name with this number, or of a new name
unfoldable pub source_code : SourceTable → Option ℕ → ListedSource → Option ℕ
source_code table at p =
    first_code (source_rules p.source (group_at table.sources at) table.count)

-- the table with one more source, or the code of its fault
unfoldable pub add_source : SourceTable → ListedSource → Result SourceTable ℕ
add_source table p =
    answer (source_code table (place_in bytes_eq table.names p.name) p)
    (put_source table (place_in bytes_eq table.names p.name) p)

-- the table after a paragraph, or the code of its fault
unfoldable pub add_source_paragraph : SourceTable → Paragraph → Result SourceTable ℕ
add_source_paragraph table p = read_step source_at add_source table p

-- the table after a paragraph, or its fault
abbrev pub tell_source : SourceTable → Paragraph → Result SourceTable Fault
tell_source table p = told SOURCES p (add_source_paragraph table p)
