-- How the reader of the packages text goes on. Only the contracts of private functions cite this
-- file.
--
--   first_package_at p    what a paragraph says, and of each relation field no more entries than
--                         tell that there are too many
--   put_at                the table with one more package, where its name's number is known
--   add, add_paragraph    the table after a package, and after a paragraph
use Rattle.std.specs.Prelude.{ℕ, ◌+◌, Option, Result}
use Rattle.std.specs.Str.{bytes_eq}
use Rattle.deb_text.specs.Common.{in_order, place_in, answer, read_step}
use Rattle.deb_text.specs.declared.fault.Fault.{Fault}
use Rattle.deb_text.specs.declared.files.TheConstants.{PACKAGES}
use Rattle.deb_stanza.specs.Stanza.{Paragraph}
use Rattle.farm_universe.specs.FieldView.{first_relations_in}
use Rattle.farm_universe.specs.Keyed.{keys_with, group_at, groups_with}
use Rattle.farm_universe.specs.PackagesText.{Listed, PackageTable, package_by, entry_count, is_below, first_code, rules_of}
use Rattle.farm_universe.specs.Told.{told}

abbrev pub first_package_at : Paragraph → Result Listed ℕ
first_package_at p = package_by first_relations_in p

-- a package of the name with this number, or of a new name
abbrev pub put_at : PackageTable → Option ℕ → Listed → PackageTable
put_at table at p = record {
  names = keys_with table.names at p.name;
  packages = groups_with (in_order is_below p.binary) table.packages at;
  entries = table.entries + entry_count p.binary;
}

-- what is wrong with a package of the name with this number, or of a new name
unfoldable pub code_at : PackageTable → Option ℕ → Listed → Option ℕ
code_at table at p = first_code (rules_of p.binary (group_at table.packages at) (put_at table at p))

-- the table with one more package, or the code of its fault
unfoldable pub add : PackageTable → Listed → Result PackageTable ℕ
add table p =
    answer (code_at table (place_in bytes_eq table.names p.name) p)
    (put_at table (place_in bytes_eq table.names p.name) p)

-- the table after a paragraph, or the code of its fault
unfoldable pub add_paragraph : PackageTable → Paragraph → Result PackageTable ℕ
add_paragraph table p = read_step first_package_at add table p

-- the table after a paragraph, or its fault
abbrev pub tell_paragraph : PackageTable → Paragraph → Result PackageTable Fault
tell_paragraph table p = told PACKAGES p (add_paragraph table p)
