-- What the table of sources stands for, and what is true of it at each paragraph.
use Rattle.std.specs.Prelude.{◌≡◌, ℕ, ◌<◌, ◌≤◌, Option, MatchOption, length}
use Rattle.deb_text.specs.Lists.{lists}
use Rattle.farm_universe.specs.declared.limits.TheConstants.{MOST_SOURCES}
use Rattle.farm_universe.specs.declared.sources.ListedSource.{ListedSource}
use Rattle.farm_universe.specs.declared.source_table.SourceTable.{SourceTable}
use Rattle.farm_universe.specs.SourcesText as text

-- what a paragraph says
abbrev pub listed_source_view : ListedSource → text.ListedSource
listed_source_view listed = record { name = listed.name.items; source = listed.source }

-- what the table says
abbrev pub source_view : SourceTable → text.SourceTable
source_view table = record {
  names = lists table.names.keys;
  sources = lists table.sources.items;
  count = table.count;
}

-- what is true of every table
pub record IsSourceTable (table : text.SourceTable) : Type 0 where
  pub paired : length table.names ≡ length table.sources
  pub few : table.count ≤ MOST_SOURCES

-- a number of a name of the table, if there is one
abbrev pub IsSourcePlace : text.SourceTable → Option ℕ → Type 0
IsSourcePlace table at = MatchOption at (Unit {0}) (λ i. i < length table.sources)
