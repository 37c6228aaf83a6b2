-- What satisfies a relation, and what an unpack takes (Debian Policy 7.1, 7.5).
--
--   provider                   pv, which provides vv, and qq, which depends on vv (>= 1.0)
--   versions                   three versions of one name
use Rattle.std.specs.Prelude.{ℕ, List, [], ◌∷◌, Option, None, codes}
use Rattle.deb_relation.specs.Relations.{Atom}
use Rattle.deb_relation.specs.declared.operator.Op.{Op}
use Rattle.deb_relation.specs.declared.operator.Op.TheVariants.{Equal, LaterOrEqual}
use Rattle.farm_model.specs.Common.{Universe, slot}
use Rattle.farm_model.specs.declared.types.Slot.{Slot}
use Rattle.plan_model.specs.Common.{Plan, lane_state}
use Rattle.plan_model.specs.declared.instructions.Instruction.TheVariants.{Unpack, Configure}
use Rattle.worked_farms.specs.Notation.{any, in_version, entry, binary, plain, frame, lone}
use Rattle.worked_farms.specs.Verdict.{run_alone}

abbrev pub bare_atom : Atom
bare_atom = any (codes "vv")

abbrev pub versioned : Atom
versioned = in_version (codes "vv") Equal (codes "1.0")

abbrev pub provider : Atom → Universe
provider provided =
    frame (codes "pv" ∷ codes "qq" ∷ [])
    ((record plain { provides = entry provided ∷ [] } ∷ [])
    ∷ (record plain {
      depends = entry (in_version (codes "vv") LaterOrEqual (codes "1.0")) ∷ [];
    } ∷ [])
    ∷ [])

abbrev pub one_then_the_other : Plan
one_then_the_other =
    lone (Unpack 0 None ∷ Unpack 1 None ∷ Configure (0 ∷ []) ∷ Configure (1 ∷ []) ∷ [])

-- ---- the pick of an unpack

-- 1.0~rc1 is earlier than 1.0 (Policy 5.6.12)
abbrev pub versions : Universe
versions =
    frame (codes "lib" ∷ [])
    ((binary (codes "1.0~rc1") 0 ∷ binary (codes "1.0") 0 ∷ binary (codes "1.1") 0 ∷ []) ∷ [])

-- what the chroot holds after an unpack alone
abbrev pub taken : Option (Op × List ℕ) → Slot
taken relation =
    slot (lane_state (run_alone versions (lone (Unpack 0 relation ∷ []))).state 0).chroot 0
