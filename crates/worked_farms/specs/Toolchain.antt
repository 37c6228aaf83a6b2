-- A farm that bootstraps a compiler: gcc is built in two stages, and libgmp between them.
--
--   toolchain                  libc6 alone is there at the beginning
--   newer                      libgmp is there too, and a second chroot that holds it
--   one_recipe                 one recipe gives gcc and libgmp, in this order
use Rattle.std.specs.Prelude.{ℕ, List, [], ◌∷◌, codes}
use Rattle.deb_relation.specs.Relations.{Entry}
use Rattle.deb_relation.specs.declared.operator.Op.TheVariants.{LaterOrEqual}
use Rattle.farm_model.specs.Common.{Recipe, Base, Universe, variant}
use Rattle.farm_model.specs.declared.types.Variant.{Variant}
use Rattle.worked_farms.specs.Notation.{any, in_version, entry, binary}

-- names, by number
abbrev pub libc6 : ℕ
libc6 = 0

abbrev pub gcc : ℕ
gcc = 1

abbrev pub libgmp : ℕ
libgmp = 2

abbrev pub stage1 : List ℕ
stage1 = codes "14-1~stage1"

-- variants
abbrev pub libc : Variant
libc = variant libc6 0

abbrev pub gcc_stage1 : Variant
gcc_stage1 = variant gcc 0

abbrev pub gcc_full : Variant
gcc_full = variant gcc 1

abbrev pub gmp : Variant
gmp = variant libgmp 0

-- entries
abbrev pub needs_libc6 : Entry
needs_libc6 = entry (any (codes "libc6"))

abbrev pub needs_later_libc6 : Entry
needs_later_libc6 = entry (in_version (codes "libc6") LaterOrEqual (codes "2.40"))

abbrev pub needs_gcc : Entry
needs_gcc = entry (any (codes "gcc"))

abbrev pub needs_libgmp : Entry
needs_libgmp = entry (any (codes "libgmp"))

-- recipes
abbrev pub stage1_recipe : Recipe
stage1_recipe = record {
  name = codes "gcc-stage1";
  steps = 20;
  scratch = 1000;
  needs = needs_libc6 ∷ [];
  clashes = [];
  outputs = gcc_stage1 ∷ [];
}

abbrev pub gmp_recipe : Recipe
gmp_recipe = record {
  name = codes "gmp";
  steps = 10;
  scratch = 0;
  needs = needs_libc6 ∷ needs_gcc ∷ [];
  clashes = [];
  outputs = gmp ∷ [];
}

abbrev pub full_recipe : Recipe
full_recipe = record {
  name = codes "gcc-full";
  steps = 40;
  scratch = 0;
  needs = needs_libc6 ∷ needs_libgmp ∷ [];
  clashes = [];
  outputs = gcc_full ∷ [];
}

-- a chroot that holds 8 MiB
abbrev pub base_of : List ℕ → List Variant → Base
base_of name packages = record { name = name; capacity = 8192; packages = packages }

abbrev pub toolchain : Universe
toolchain = record {
  names = codes "libc6" ∷ codes "gcc" ∷ codes "libgmp" ∷ [];
  packages =
      (binary (codes "2.40-1") 2048 ∷ [])
      ∷ (record (binary stage1 1024) { depends = needs_later_libc6 ∷ [] }
      ∷ record (binary (codes "14-1") 3072) { depends = needs_later_libc6 ∷ needs_libgmp ∷ [] }
      ∷ [])
      ∷ (record (binary (codes "6.3-1") 512) { depends = needs_libc6 ∷ [] } ∷ [])
      ∷ [];
  recipes = stage1_recipe ∷ gmp_recipe ∷ full_recipe ∷ [];
  bases = base_of (codes "base") (libc ∷ []) ∷ [];
  initial = 1 ∷ 0 ∷ 0 ∷ [];
  architectures = codes "riscv64" ∷ codes "any" ∷ codes "linux-any" ∷ [];
}

abbrev pub newer : Universe
newer =
    record toolchain {
      recipes = stage1_recipe ∷ full_recipe ∷ [];
      bases = base_of (codes "base") (libc ∷ []) ∷ base_of (codes "dev") (libc ∷ gmp ∷ []) ∷ [];
      initial = 1 ∷ 0 ∷ 1 ∷ [];
    }

abbrev pub one_recipe : List Variant → Universe
one_recipe outputs =
    record toolchain {
      recipes = record {
        name = codes "both";
        steps = 20;
        scratch = 0;
        needs = needs_libc6 ∷ [];
        clashes = [];
        outputs = outputs;
      } ∷ [];
    }
