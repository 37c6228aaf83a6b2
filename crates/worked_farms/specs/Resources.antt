-- Disk space and budgets. All sizes are in KiB (the project's own rules; Installed-Size: Debian
-- Policy 5.6.20).
--
--   small_farm                 libc6 of 2048, and a chroot of 4096
--   upgrading                  a chroot of this capacity that holds 3584, and an upgrade of 3072 in
--                              place of 1024
--   scratching                 a build with 1000 of scratch space, beside 2048, in a chroot of this
--                              capacity
use Rattle.std.specs.Prelude.{ℕ, [], ◌∷◌, Some, None, codes}
use Rattle.deb_relation.specs.declared.operator.Op.TheVariants.{Equal}
use Rattle.farm_model.specs.Common.{Universe, variant, used}
use Rattle.plan_model.specs.Common.{Plan, lane_state}
use Rattle.plan_model.specs.declared.instructions.Instruction.TheVariants.{Unpack, Configure, Build}
use Rattle.worked_farms.specs.Notation.{binary, frame, lane_in, lone}
use Rattle.worked_farms.specs.Toolchain.{libc6, gcc, libgmp, toolchain}
use Rattle.worked_farms.specs.Verdict.{run_alone}

abbrev pub small_farm : Universe
small_farm =
    record (frame (codes "libc6" ∷ []) ((binary (codes "2.40-1") 2048 ∷ []) ∷ [])) {
      bases = record { name = codes "main"; capacity = 4096; packages = [] } ∷ [];
    }

-- one lane of this budget
abbrev pub unpack_and_configure : ℕ → Plan
unpack_and_configure budget =
    lane_in (codes "a") 0 budget
    (Unpack 0 (Some (Equal, codes "2.40-1")) ∷ Configure (0 ∷ []) ∷ []) ∷ []

-- the archive has the later gcc alone, and the chroot holds libc6, libgmp and the earlier gcc
abbrev pub upgrading : ℕ → Universe
upgrading capacity =
    record toolchain {
      recipes = [];
      bases = record {
        name = codes "full";
        capacity = capacity;
        packages = variant libc6 0 ∷ variant libgmp 0 ∷ variant gcc 0 ∷ [];
      } ∷ [];
      initial = 0 ∷ 2 ∷ 0 ∷ [];
    }

abbrev pub upgrade : Plan
upgrade = lane_in (codes "a") 0 10 (Unpack gcc None ∷ []) ∷ []

-- the space taken once a plan of one lane has run
abbrev pub used_after : Universe → Plan → ℕ
used_after u p = used u (lane_state (run_alone u p).state 0).chroot

abbrev pub scratching : ℕ → Universe
scratching capacity =
    record toolchain {
      bases = record {
        name = codes "base";
        capacity = capacity;
        packages = variant libc6 0 ∷ [];
      } ∷ [];
    }

abbrev pub build_stage1 : Plan
build_stage1 = lone (Build 0 ∷ [])
