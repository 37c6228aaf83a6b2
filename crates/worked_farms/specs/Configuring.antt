-- Packages that need each other (Debian Policy 7.2).
--
--   cycle, pre_cycle           aa and bb Depend, and Pre-Depend, on each other
--   library                    lib 1, lib 2, and an app that Pre-Depends on lib
use Rattle.std.specs.Prelude.{ℕ, List, [], ◌∷◌, Some, None, codes}
use Rattle.deb_relation.specs.Relations.{Entry}
use Rattle.deb_relation.specs.declared.operator.Op.TheVariants.{Equal, LaterOrEqual}
use Rattle.farm_model.specs.Universe.{Universe}
use Rattle.plan_model.specs.Plan.{Plan}
use Rattle.plan_model.specs.declared.instructions.Instruction.{Instruction}
use Rattle.plan_model.specs.declared.instructions.Instruction.TheVariants.{Unpack, Configure, Remove}
use Rattle.worked_farms.specs.Notation.{any, in_version, entry, binary, plain, frame, lone}

abbrev pub aa : ℕ
aa = 0

abbrev pub bb : ℕ
bb = 1

abbrev pub needs_aa : Entry
needs_aa = entry (any (codes "aa"))

abbrev pub needs_bb : Entry
needs_bb = entry (any (codes "bb"))

abbrev pub cycle : Universe
cycle =
    frame (codes "aa" ∷ codes "bb" ∷ [])
    ((record plain { depends = needs_bb ∷ [] } ∷ [])
    ∷ (record plain { depends = needs_aa ∷ [] } ∷ [])
    ∷ [])

abbrev pub pre_cycle : Universe
pre_cycle =
    frame (codes "aa" ∷ codes "bb" ∷ [])
    ((record plain { pre_depends = needs_bb ∷ [] } ∷ [])
    ∷ (record plain { pre_depends = needs_aa ∷ [] } ∷ [])
    ∷ [])

abbrev pub together : Plan
together = lone (Unpack aa None ∷ Unpack bb None ∷ Configure (aa ∷ bb ∷ []) ∷ [])

abbrev pub bb_first : Plan
bb_first = lone (Unpack bb None ∷ Unpack aa None ∷ Configure (aa ∷ bb ∷ []) ∷ [])

abbrev pub one_by_one : Plan
one_by_one = lone (Unpack aa None ∷ Unpack bb None ∷ Configure (aa ∷ []) ∷ Configure (bb ∷ []) ∷ [])

-- ---- Pre-Depends

abbrev pub lib : ℕ
lib = 0

abbrev pub app : ℕ
app = 1

abbrev pub library : List ℕ → Universe
library lowest =
    frame (codes "lib" ∷ codes "app" ∷ [])
    ((binary (codes "1") 0 ∷ binary (codes "2") 0 ∷ [])
    ∷ (record plain {
      pre_depends = entry (in_version (codes "lib") LaterOrEqual lowest) ∷ [];
    } ∷ [])
    ∷ [])

abbrev pub unpack_lib : List ℕ → Instruction
unpack_lib version = Unpack lib (Some (Equal, version))

-- app is unpacked while lib 2 is unpacked, and lib 1 was configured
abbrev pub upgraded : List Instruction
upgraded =
    unpack_lib (codes "1") ∷ Configure (lib ∷ []) ∷ unpack_lib (codes "2") ∷ Unpack app None ∷ []

abbrev pub before_configured : Plan
before_configured = lone (unpack_lib (codes "1") ∷ Unpack app None ∷ [])

abbrev pub after_removed : Plan
after_removed =
    lone (Unpack lib None ∷ Configure (lib ∷ []) ∷ Remove (lib ∷ [])
    ∷ Unpack lib None ∷ Unpack app None ∷ [])

abbrev pub after_configured : Plan
after_configured =
    lone (Unpack lib None ∷ Configure (lib ∷ []) ∷ Unpack app None ∷ Configure (app ∷ []) ∷ [])
