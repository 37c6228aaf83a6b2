-- Builds and what they need of a chroot (Debian Policy 7.7, and the project's own rules).
--
--   clashing                   a recipe whose build conflicts with lib
use Rattle.std.specs.Prelude.{[], ◌∷◌, None, codes}
use Rattle.farm_model.specs.Common.{Universe, variant}
use Rattle.plan_model.specs.Plan.{Plan}
use Rattle.plan_model.specs.declared.instructions.Instruction.TheVariants.{Unpack, Configure, Build, Publish}
use Rattle.worked_farms.specs.Notation.{any, entry, plain, frame, lone}

-- lib is in the archive, out is not: app gives it
abbrev pub clashing : Universe
clashing =
    record (frame (codes "lib" ∷ codes "out" ∷ []) ((plain ∷ []) ∷ (plain ∷ []) ∷ [])) {
      recipes = record {
        name = codes "app";
        steps = 1;
        scratch = 0;
        needs = [];
        clashes = entry (any (codes "lib")) ∷ [];
        outputs = variant 1 0 ∷ [];
      } ∷ [];
      initial = 1 ∷ 0 ∷ [];
    }

abbrev pub build_in_empty : Plan
build_in_empty = lone (Build 0 ∷ Publish 0 ∷ [])

abbrev pub build_beside_configured : Plan
build_beside_configured = lone (Unpack 0 None ∷ Configure (0 ∷ []) ∷ Build 0 ∷ [])

abbrev pub build_beside_unpacked : Plan
build_beside_unpacked = lone (Unpack 0 None ∷ Build 0 ∷ [])

abbrev pub configure_absent : Plan
configure_absent = lone (Configure (0 ∷ []) ∷ [])

-- of the farm with the compiler
abbrev pub build_gmp : Plan
build_gmp = lone (Build 1 ∷ [])

abbrev pub publish_gmp : Plan
publish_gmp = lone (Publish 1 ∷ [])
