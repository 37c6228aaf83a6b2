-- Plans that would trap if what a lane may hold were taken for less than it is: another lane
-- publishes a newer version, before or after this lane unpacks (the project's own rules).
--
--   growing                    newer versions of lib and aa may be published
--   beside                     a lane beside one that publishes
--   two_makers                 two lanes publish versions of one name
use Rattle.std.specs.Prelude.{ℕ, List, [], ◌∷◌, None, codes}
use Rattle.deb_relation.specs.Relations.{Entry}
use Rattle.deb_relation.specs.declared.operator.Op.TheVariants.{Equal, LaterOrEqual}
use Rattle.farm_model.specs.Common.{Recipe, Base, Universe, variant}
use Rattle.farm_model.specs.declared.types.Variant.{Variant}
use Rattle.plan_model.specs.Common.{Plan, Rows}
use Rattle.plan_model.specs.declared.instructions.Instruction.{Instruction}
use Rattle.plan_model.specs.declared.instructions.Instruction.TheVariants.{Unpack, Configure, Remove, Build, Publish, Wait}
use Rattle.worked_farms.specs.Notation.{any, in_version, entry, binary, plain, lane_in, table_rows}

abbrev pub lib : ℕ
lib = 0

abbrev pub aa : ℕ
aa = 1

abbrev pub bb : ℕ
bb = 2

abbrev pub qq : ℕ
qq = 3

-- a recipe of one step that needs nothing
abbrev pub recipe_of : List ℕ → List Variant → Recipe
recipe_of name outputs = record {
  name = name;
  steps = 1;
  scratch = 0;
  needs = [];
  clashes = [];
  outputs = outputs;
}

abbrev pub empty_base : List ℕ → ℕ → Base
empty_base name capacity = record { name = name; capacity = capacity; packages = [] }

-- lib 2 is large, aa 2 breaks bb and depends on lib, qq depends on lib (>= 2). The archive has each
-- version 1; the recipes give lib 2 and aa 2; a second chroot is small
abbrev pub growing : Universe
growing = record {
  names = codes "lib" ∷ codes "aa" ∷ codes "bb" ∷ codes "qq" ∷ [];
  packages =
      (plain ∷ binary (codes "2") 3072 ∷ [])
      ∷ (plain ∷ record (binary (codes "2") 0) {
        depends = entry (any (codes "lib")) ∷ [];
        breaks = entry (any (codes "bb")) ∷ [];
      } ∷ [])
      ∷ (plain ∷ [])
      ∷ (record plain {
        depends = entry (in_version (codes "lib") LaterOrEqual (codes "2")) ∷ [];
      } ∷ [])
      ∷ [];
  recipes =
      recipe_of (codes "new-lib") (variant lib 1 ∷ [])
      ∷ recipe_of (codes "new-aa") (variant aa 1 ∷ [])
      ∷ [];
  bases = empty_base (codes "main") 4096 ∷ empty_base (codes "small") 2048 ∷ [];
  initial = 1 ∷ 1 ∷ 1 ∷ 1 ∷ [];
  architectures = codes "riscv64" ∷ [];
}

-- a lane, and one that publishes what the recipe of this number gives
abbrev pub beside : ℕ → ℕ → ℕ → List Instruction → Plan
beside r base budget instructions =
    lane_in (codes "a") base budget instructions
    ∷ lane_in (codes "b") 0 100 (Build r ∷ Publish r ∷ [])
    ∷ []

abbrev pub beside_known : Variant → Rows
beside_known output = table_rows growing ([] ∷ ([] ∷ [] ∷ (output ∷ []) ∷ []) ∷ [])

abbrev pub new_lib : Variant
new_lib = variant lib 1

abbrev pub new_aa : Variant
new_aa = variant aa 1

-- qq needs lib 2, and may meet lib 1
abbrev pub uses_lib : Plan
uses_lib =
    beside 0 0 100
    (Unpack lib None ∷ Configure (lib ∷ []) ∷ Unpack qq None ∷ Configure (qq ∷ []) ∷ [])

-- aa may be aa 2, which breaks bb
abbrev pub unpacks_beside : Plan
unpacks_beside = beside 1 0 100 (Unpack bb None ∷ Configure (bb ∷ []) ∷ Unpack aa None ∷ [])

abbrev pub configures_beside : Plan
configures_beside = beside 1 0 100 (Unpack bb None ∷ Unpack aa None ∷ Configure (bb ∷ []) ∷ [])

-- aa may be aa 2, which depends on lib
abbrev pub removes_lib : Plan
removes_lib =
    beside 1 0 100
    (Unpack lib None ∷ Configure (lib ∷ []) ∷ Unpack aa None
    ∷ Configure (aa ∷ []) ∷ Remove (lib ∷ []) ∷ [])

-- lib may be lib 2, in this chroot and with this budget
abbrev pub takes_lib : ℕ → ℕ → Plan
takes_lib base budget = beside 0 base budget (Unpack lib None ∷ [])

-- ---- two that satisfy one wait

-- tool 1 comes alone, and tool 2 after extra
abbrev pub makers : Universe
makers = record {
  names = codes "tool" ∷ codes "extra" ∷ [];
  packages = (plain ∷ binary (codes "2") 0 ∷ []) ∷ (plain ∷ []) ∷ [];
  recipes =
      recipe_of (codes "early") (variant 0 0 ∷ [])
      ∷ recipe_of (codes "late") (variant 1 0 ∷ variant 0 1 ∷ [])
      ∷ [];
  bases = empty_base (codes "main") 100 ∷ [];
  initial = 0 ∷ 0 ∷ [];
  architectures = codes "riscv64" ∷ [];
}

abbrev pub any_tool : Entry
any_tool = entry (any (codes "tool"))

abbrev pub second_tool : Entry
second_tool = entry (in_version (codes "tool") Equal (codes "2"))

-- a waits for a tool, and unpacks extra
abbrev pub two_makers : Entry → Plan
two_makers awaited =
    lane_in (codes "a") 0 100 (Wait awaited ∷ Unpack 1 None ∷ [])
    ∷ lane_in (codes "b") 0 100 (Build 0 ∷ Publish 0 ∷ [])
    ∷ lane_in (codes "c") 0 100 (Build 1 ∷ Publish 1 ∷ [])
    ∷ []

-- a knows these once its wait has passed
abbrev pub two_makers_known : List Variant → Rows
two_makers_known a_knows =
    table_rows makers
    (([] ∷ a_knows ∷ a_knows ∷ [])
    ∷ ([] ∷ [] ∷ (variant 0 0 ∷ []) ∷ [])
    ∷ ([] ∷ [] ∷ late ∷ [])
    ∷ [])
  where
    late : List Variant
    late = variant 1 0 ∷ variant 0 1 ∷ []
