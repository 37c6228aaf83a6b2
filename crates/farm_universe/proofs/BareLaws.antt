-- A package whose fields all stay is its own reduction.
use Rattle.std.proofs.Common.{◌≡◌, ℕ, Bool, List, refl}
use Rattle.farm_model.specs.Universe.{Package}
use Rattle.farm_universe.specs.declared.binary.PackageRelations.{PackageRelations}
use Rattle.farm_universe.specs.Bare.{AllStayWhole}
use Rattle.farm_universe.specs.Land.{reduced_package}

-- a package of these fields
abbrev with_fields : List ℕ → ℕ → Bool → PackageRelations → Package
with_fields version size essential relations = record {
  version = version;
  size = size;
  essential = essential;
  pre_depends = relations.pre_depends;
  depends = relations.depends;
  conflicts = relations.conflicts;
  breaks = relations.breaks;
  provides = relations.provides;
}

pub stays_whole : (version : List ℕ) (size : ℕ) (essential : Bool) (relations : PackageRelations)
    → AllStayWhole relations → (architectures : List (List ℕ))
    → with_fields version size essential relations
    ≡ reduced_package architectures (with_fields version size essential relations)
unfolding reduced_package
stays_whole version size essential relations stay architectures =
    rw (
      stay.pre_depends architectures,
      stay.depends architectures,
      stay.conflicts architectures,
      stay.breaks architectures,
      stay.provides architectures,
    ) refl
