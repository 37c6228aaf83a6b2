-- Several lanes that wait for each other's outputs (the project's own rules; a wait is
-- wanna-build's Dep-Wait). With each plan stands what its lanes know, by the variants that are not
-- in the archive from the start.
--
--   handing                    two lanes hand a compiler to each other
--   newest_or_exact            an unpack of any version, or of one
--   between                    a wait for the first of two outputs
--   through_another            a lane knows of an output through another lane's wait
--   circle, self_circle        waits in a circle
use Rattle.std.specs.Prelude.{ℕ, true, false, List, [], ◌∷◌, ◌++◌, Option, Some, None, codes}
use Rattle.deb_relation.specs.declared.operator.Op.{Op}
use Rattle.deb_relation.specs.declared.operator.Op.TheVariants.{Equal, LaterOrEqual}
use Rattle.farm_model.specs.declared.types.Variant.{Variant}
use Rattle.farm_model.specs.declared.types.Slot.TheVariants.{Absent, Configured}
use Rattle.plan_model.specs.Common.{Lane, Plan, State, Ending, publication, Rows}
use Rattle.plan_model.specs.declared.instructions.Instruction.{Instruction}
use Rattle.plan_model.specs.declared.instructions.Instruction.TheVariants.{Unpack, Configure, Build, Publish, Wait}
use Rattle.worked_farms.specs.Notation.{in_version, entry, lane_in, table_rows}
use Rattle.worked_farms.specs.Toolchain.{gcc, libgmp, stage1, gcc_stage1, gcc_full, gmp, needs_gcc, needs_libgmp, toolchain, newer}

abbrev pub only_stage1 : Option (Op × List ℕ)
only_stage1 = Some (Equal, stage1)

-- ---- two lanes that need each other

-- a, which does this ahead of its unpack of libgmp, and b
abbrev pub handing_after : List Instruction → Plan
handing_after awaits =
    lane_in (codes "a") 0 100
    (Build 0 ∷ Publish 0 ∷ awaits ++ Unpack libgmp None
    ∷ Configure (libgmp ∷ []) ∷ Build 2 ∷ Publish 2 ∷ [])
    ∷ lane_in (codes "b") 0 100
    (Wait (entry (in_version (codes "gcc") Equal stage1)) ∷ Unpack gcc only_stage1
    ∷ Configure (gcc ∷ []) ∷ Build 1 ∷ Publish 1 ∷ [])
    ∷ []

abbrev pub handing : Plan
handing = handing_after (Wait needs_libgmp ∷ [])

-- b knows these once its wait has passed
abbrev pub handing_known : List Variant → Rows
handing_known b_knows =
    let first = gcc_stage1 ∷ [] in
    let second = gcc_stage1 ∷ gmp ∷ [] in
    table_rows toolchain
    (([] ∷ [] ∷ first ∷ second ∷ second ∷ second ∷ second ∷ (gcc_stage1 ∷ gmp ∷ gcc_full ∷ []) ∷ [])
    ∷ ([] ∷ b_knows ∷ b_knows ∷ b_knows ∷ b_knows ∷ second ∷ [])
    ∷ [])

-- how each of its runs ends
abbrev pub handed : State
handed = record {
  lanes =
      record {
        done = 7;
        made = 0;
        chroot = Configured 0 ∷ Absent ∷ Configured 0 ∷ [];
        spent = 64;
        built = true ∷ false ∷ true ∷ [];
      }
      ∷ record {
        done = 5;
        made = 0;
        chroot = Configured 0 ∷ Configured 0 ∷ Absent ∷ [];
        spent = 14;
        built = false ∷ true ∷ false ∷ [];
      }
      ∷ [];
  published = publication 0 gcc_stage1 ∷ publication 1 gmp ∷ publication 0 gcc_full ∷ [];
}

-- a run that meets no trap and ends in this state
abbrev pub ended_in : State → Ending
ended_in s = record { state = s; stop = None }

-- ---- the unpack may give a newer one

-- b publishes both versions of gcc, and a unpacks one in this relation
abbrev pub newest_or_exact : Option (Op × List ℕ) → Plan
newest_or_exact relation =
    lane_in (codes "a") 0 100
    (Wait (entry (in_version (codes "gcc") LaterOrEqual stage1)) ∷ Unpack gcc relation
    ∷ Configure (gcc ∷ []) ∷ [])
    ∷ lane_in (codes "b") 1 100 (Build 0 ∷ Publish 0 ∷ Build 1 ∷ Publish 1 ∷ [])
    ∷ []

abbrev pub newest_or_exact_known : Rows
newest_or_exact_known =
    let first = gcc_stage1 ∷ [] in
    table_rows newer
    (([] ∷ first ∷ first ∷ first ∷ [])
    ∷ ([] ∷ [] ∷ first ∷ first ∷ (gcc_stage1 ∷ gcc_full ∷ []) ∷ [])
    ∷ [])

-- ---- between two outputs

-- a, of this budget, publishes both outputs of its recipe; b waits for gcc and unpacks libgmp
abbrev pub between : ℕ → Plan
between budget =
    lane_in (codes "a") 0 budget (Build 0 ∷ Publish 0 ∷ [])
    ∷ lane_in (codes "b") 0 50 (Wait needs_gcc ∷ Unpack libgmp None ∷ Configure (libgmp ∷ []) ∷ [])
    ∷ []

-- b knows these once its wait has passed
abbrev pub between_known : List Variant → Rows
between_known b_knows =
    table_rows toolchain
    (([] ∷ [] ∷ (gcc_stage1 ∷ gmp ∷ []) ∷ [])
    ∷ ([] ∷ b_knows ∷ b_knows ∷ b_knows ∷ [])
    ∷ [])

-- ---- known through another lane

-- waits for gcc, and makes libgmp with it
abbrev pub makes_libgmp : Lane
makes_libgmp =
    lane_in (codes "b") 0 50
    (Wait needs_gcc ∷ Unpack gcc None ∷ Configure (gcc ∷ []) ∷ Build 1 ∷ Publish 1 ∷ [])

-- a and b, and c, which does this ahead of its unpack of gcc
abbrev pub through_another_after : List Instruction → Plan
through_another_after awaits =
    lane_in (codes "a") 0 50 (Build 0 ∷ Publish 0 ∷ [])
    ∷ makes_libgmp
    ∷ lane_in (codes "c") 0 50 (awaits ++ Unpack gcc None ∷ Configure (gcc ∷ []) ∷ [])
    ∷ []

abbrev pub through_another : Plan
through_another = through_another_after (Wait needs_libgmp ∷ [])

abbrev pub through_another_known : Rows
through_another_known =
    let first = gcc_stage1 ∷ [] in
    let second = gcc_stage1 ∷ gmp ∷ [] in
    table_rows toolchain
    (([] ∷ [] ∷ first ∷ [])
    ∷ ([] ∷ first ∷ first ∷ first ∷ first ∷ second ∷ [])
    ∷ ([] ∷ second ∷ second ∷ second ∷ [])
    ∷ [])

-- ---- waits in a circle

abbrev pub circle : Plan
circle = lane_in (codes "a") 0 50 (Wait needs_libgmp ∷ Build 0 ∷ Publish 0 ∷ []) ∷ makes_libgmp ∷ []

-- each lane would know what the other publishes, if its wait ever passed
abbrev pub circle_known : Rows
circle_known =
    let first = gcc_stage1 ∷ [] in
    let second = gmp ∷ [] in
    let both = gcc_stage1 ∷ gmp ∷ [] in
    table_rows toolchain
    (([] ∷ second ∷ second ∷ both ∷ [])
    ∷ ([] ∷ first ∷ first ∷ first ∷ first ∷ both ∷ [])
    ∷ [])

-- a lane that waits for what it makes itself
abbrev pub self_circle : Plan
self_circle = lane_in (codes "a") 0 50 (Wait needs_gcc ∷ Build 0 ∷ Publish 0 ∷ []) ∷ []

abbrev pub self_circle_known : Rows
self_circle_known = table_rows toolchain (([] ∷ [] ∷ [] ∷ (gcc_stage1 ∷ []) ∷ []) ∷ [])
