-- What the later paragraphs of the farm text are read against.
use Rattle.std.specs.Prelude.{ℕ, List, [], map}
use Rattle.deb_profile.specs.Reduction.{reduced}
use Rattle.deb_relation.specs.Relations.{Relations}
use Rattle.farm_model.specs.Universe.{Package}
use Rattle.farm_universe.specs.PackagesText.{PackageTable}
use Rattle.farm_universe.specs.SourcesText.{SourceTable}

-- the packages, their relations reduced; the sources; the names of the architecture; and a word of
-- the initial archive for each name of a package
pub record Land : Type 0 where
  pub table : PackageTable
  pub sources : SourceTable
  pub architectures : List (List ℕ)
  pub initial : List ℕ

-- a relation field, reduced by the names of the architecture and by no profile (Debian Policy 7.1)
unfoldable pub reduced_field : List (List ℕ) → Relations → Relations
reduced_field architectures field = reduced architectures [] field

-- a package with its relation fields reduced
unfoldable pub reduced_package : List (List ℕ) → Package → Package
reduced_package architectures v = record {
  version = v.version;
  size = v.size;
  essential = v.essential;
  pre_depends = reduced_field architectures v.pre_depends;
  depends = reduced_field architectures v.depends;
  conflicts = reduced_field architectures v.conflicts;
  breaks = reduced_field architectures v.breaks;
  provides = reduced_field architectures v.provides;
}

-- a table with the relation fields of all its packages reduced
abbrev pub reduced_table : List (List ℕ) → PackageTable → PackageTable
reduced_table architectures table = record {
  names = table.names;
  packages = map (map (reduced_package architectures)) table.packages;
  entries = table.entries;
}
