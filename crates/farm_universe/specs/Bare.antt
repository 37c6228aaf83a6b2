-- Packages of whose relation fields no architecture takes anything (Debian Policy 7.1).
use Rattle.std.specs.Prelude.{◌≡◌, ℕ, List}
use Rattle.deb_relation.specs.Relations.{Relations}
use Rattle.farm_universe.specs.declared.binary.PackageRelations.{PackageRelations}
use Rattle.farm_universe.specs.Land.{reduced_field}

-- the field stays as it is, whatever the architecture
abbrev pub StaysWhole : Relations → Type 0
StaysWhole field = (architectures : List (List ℕ)) → reduced_field architectures field ≡ field

pub record AllStayWhole (relations : PackageRelations) : Type 0 where
  pub pre_depends : StaysWhole relations.pre_depends
  pub depends : StaysWhole relations.depends
  pub conflicts : StaysWhole relations.conflicts
  pub breaks : StaysWhole relations.breaks
  pub provides : StaysWhole relations.provides
