-- The universe that three texts describe, or their first fault: packages before sources before the
-- farm. Each text is read as a whole, and then paragraph by paragraph.
--
--   universe_of packages sources farm
use Rattle.std.specs.Prelude.{ℕ, List, Result}
use Rattle.deb_text.specs.Steps.{◌>>=◌}
use Rattle.deb_text.specs.declared.fault.Fault.{Fault}
use Rattle.deb_text.specs.declared.files.TheConstants.{PACKAGES, SOURCES, FARM}
use Rattle.deb_stanza.specs.Stanza.{Paragraph, paragraphs_at}
use Rattle.farm_model.specs.Universe.{Universe}
use Rattle.farm_universe.specs.FarmText.{farm_of}
use Rattle.farm_universe.specs.PackagesText.{PackageTable, packages_of}
use Rattle.farm_universe.specs.SourcesText.{SourceTable, sources_of}
use Rattle.farm_universe.specs.Told.{in_file}

-- the paragraphs of a text, or its first fault
unfoldable pub paragraphs_in : ℕ → List ℕ → Result (List Paragraph) Fault
paragraphs_in file text = in_file file (paragraphs_at text)

-- what the packages text says
unfoldable pub table_at : List ℕ → Result PackageTable Fault
table_at packages = paragraphs_in PACKAGES packages >>= packages_of

-- what the sources text says
unfoldable pub sources_at : List ℕ → Result SourceTable Fault
sources_at sources = paragraphs_in SOURCES sources >>= sources_of

-- what the farm text says behind them
unfoldable pub farm_at : PackageTable → SourceTable → List ℕ → Result Universe Fault
farm_at table sources farm = paragraphs_in FARM farm >>= farm_of table sources

-- what the three texts say together, or the first fault of the first that has one
unfoldable pub universe_of : List ℕ → List ℕ → List ℕ → Result Universe Fault
universe_of packages sources farm = do
  table ← table_at packages
  listed ← sources_at sources
  farm_at table listed farm
