-- Plans that would trap if what a present name may hold were taken for less than it is: another
-- lane publishes a newer version, before or after this lane unpacks (the project's own rules).
--
--   holding                    a newer version of lib may be published
--   excludes_beside            a package that conflicts with the newer one, in a lane beside
--   breaks_beside              a package that breaks it
--   removes_beside             a package that needs the older one
use Rattle.std.specs.Prelude.{ℕ, List, [], ◌∷◌, Option, Some, None, codes}
use Rattle.deb_relation.specs.Relations.{Entry}
use Rattle.deb_relation.specs.declared.operator.Op.{Op}
use Rattle.deb_relation.specs.declared.operator.Op.TheVariants.{Equal}
use Rattle.farm_model.specs.Universe.{Universe}
use Rattle.plan_model.specs.Common.{Plan, Rows}
use Rattle.plan_model.specs.declared.instructions.Instruction.TheVariants.{Unpack, Configure, Remove}
use Rattle.worked_farms.specs.Notation.{in_version, entry, binary, plain, table_rows}
use Rattle.worked_farms.specs.Growing.{lib, new_lib, recipe_of, empty_base, beside}

abbrev pub cc : ℕ
cc = 1

abbrev pub dd : ℕ
dd = 2

abbrev pub ee : ℕ
ee = 3

abbrev pub first_lib : Entry
first_lib = entry (in_version (codes "lib") Equal (codes "1"))

abbrev pub second_lib : Entry
second_lib = entry (in_version (codes "lib") Equal (codes "2"))

-- cc conflicts with lib 2, dd breaks it, ee depends on lib 1. The archive has each version 1; the
-- recipe gives lib 2
abbrev pub holding : Universe
holding = record {
  names = codes "lib" ∷ codes "cc" ∷ codes "dd" ∷ codes "ee" ∷ [];
  packages =
      (plain ∷ binary (codes "2") 0 ∷ [])
      ∷ (record plain { conflicts = second_lib ∷ [] } ∷ [])
      ∷ (record plain { breaks = second_lib ∷ [] } ∷ [])
      ∷ (record plain { depends = first_lib ∷ [] } ∷ [])
      ∷ [];
  recipes = recipe_of (codes "new-lib") (new_lib ∷ []) ∷ [];
  bases = empty_base (codes "main") 100 ∷ [];
  initial = 1 ∷ 1 ∷ 1 ∷ 1 ∷ [];
  architectures = codes "riscv64" ∷ [];
}

-- the other lane knows what it has published, and this lane the initial archive alone
abbrev pub holding_known : Rows
holding_known = table_rows holding ([] ∷ ([] ∷ [] ∷ (new_lib ∷ []) ∷ []) ∷ [])

-- the lib that is unpacked may be lib 2, which conflicts with cc
abbrev pub excludes_beside : Plan
excludes_beside = beside 0 0 100 (Unpack lib None ∷ Unpack cc None ∷ [])

-- the lib that is configured may be lib 2, which dd breaks
abbrev pub breaks_beside : Plan
breaks_beside = beside 0 0 100 (Unpack lib None ∷ Configure (lib ∷ []) ∷ Unpack dd None ∷ [])

abbrev pub version_one : Option (Op × List ℕ)
version_one = Some (Equal, codes "1")

-- the lib that goes may be lib 1, which ee needs, or lib 2
abbrev pub removes_beside : Plan
removes_beside =
    beside 0 0 100
    (Unpack lib version_one ∷ Configure (lib ∷ []) ∷ Unpack ee None ∷ Configure (ee ∷ [])
    ∷ Unpack lib None ∷ Configure (lib ∷ []) ∷ Remove (lib ∷ []) ∷ [])
