-- What the table of packages stands for, and what is true of it at each paragraph.
use Rattle.std.specs.Prelude.{◌≡◌, ℕ, ◌<◌, ◌≤◌, List, [], ◌∷◌, Option, MatchOption, Result, IfOk, length, All, true}
use Rattle.std.specs.List.{list_all}
use Rattle.std.specs.Str.{bytes_eq}
use Rattle.deb_text.specs.Common.{Gives, AllDistinct, lists}
use Rattle.deb_stanza.specs.Stanza.{Paragraph}
use Rattle.farm_universe.specs.declared.error.FieldFault.{FieldFault}
use Rattle.farm_universe.specs.declared.limits.TheConstants.{MOST_NAMES, MOST_ENTRIES, MOST_VARIANTS, MOST_SIZE}
use Rattle.farm_universe.specs.declared.packages.Listed.{Listed}
use Rattle.farm_universe.specs.declared.package_table.PackageTable.{PackageTable}
use Rattle.farm_universe.specs.PackagesText as text
use Rattle.farm_universe.specs.TableSteps.{first_package_at}
use Rattle.farm_universe.specs.View.{refusal_of}
use Rattle.farm_model.specs.Universe.{Package}

-- what a paragraph says
abbrev pub listed_view : Listed → text.Listed
listed_view listed = record { name = listed.name.items; binary = listed.binary }

-- what was read of a paragraph of the packages text
pub record IsListedPackage (p : Paragraph) (read : Result Listed FieldFault) : Type 0 where
  pub said : Gives refusal_of listed_view read (first_package_at p)
  pub small : IfOk read (λ listed. listed.binary.size ≤ MOST_SIZE)

-- what the table says
abbrev pub table_view : PackageTable → text.PackageTable
table_view table = record {
  names = lists table.names.keys;
  packages = lists table.packages.items;
  entries = table.entries;
}

-- from a lower to a higher version, with none twice
abbrev pub Rises : List Package → Type 0
Rises [] = Unit {0}
Rises (v ∷ vs) = (list_all (text.is_below v) vs ≡ true) × Rises vs

-- the packages of one name
pub record IsOrderly (vs : List Package) : Type 0 where
  pub rises : Rises vs
  pub few : length vs ≤ MOST_VARIANTS
  pub small : All (λ v. v.size ≤ MOST_SIZE) vs

-- what is true of every table
pub record IsFit (table : text.PackageTable) : Type 0 where
  pub paired : length table.names ≡ length table.packages
  pub few_names : length table.names ≤ MOST_NAMES
  pub few_entries : table.entries ≤ MOST_ENTRIES
  pub distinct : AllDistinct bytes_eq table.names
  pub orderly : All IsOrderly table.packages

-- a number of a name of the table, if there is one
abbrev pub IsWithinTable : text.PackageTable → Option ℕ → Type 0
IsWithinTable table at = MatchOption at (Unit {0}) (λ i. i < length table.packages)
