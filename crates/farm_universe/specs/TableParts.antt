-- The packages text, read part by part. Only the contracts of private functions cite this file.
--
--   IsReadTo    a table that the paragraphs before one are put into
--   IsTablePart  what was read of the paragraphs from one up to another
use Rattle.std.specs.Prelude.{◌≡◌, ℕ, ◌<◌, ◌≤◌, List, drop, length}
use Rattle.deb_text.specs.Steps.{steps}
use Rattle.deb_stanza.specs.Stanza.{Paragraph}
use Rattle.farm_universe.specs.declared.package_table.PackageTable.{PackageTable}
use Rattle.farm_universe.specs.declared.package_table.ReadPart.{ReadPart}
use Rattle.farm_universe.specs.PackagesText.{packages_of}
use Rattle.farm_universe.specs.Parts.{AreReads}
use Rattle.farm_universe.specs.TableSteps.{tell_paragraph}
use Rattle.farm_universe.specs.TableView.{table_view, IsFit, IsListedPackage}

-- going on by the other paragraphs gives what the text says
pub record IsReadTo (ps : List Paragraph) (number : ℕ) (table : PackageTable) : Type 0 where
  pub so_far : steps tell_paragraph (table_view table) (drop number ps) ≡ packages_of ps
  pub fit : IsFit (table_view table)

pub record IsTablePart (ps : List Paragraph) (part : ReadPart) : Type 0 where
  pub some : part.first < part.end
  pub within : part.end ≤ length ps
  pub reads : AreReads IsListedPackage ps part.first part.end part.read.items
