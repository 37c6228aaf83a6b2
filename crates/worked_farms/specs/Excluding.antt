-- Packages that exclude each other, and packages that are still needed (Debian Policy 7.2 to 7.5).
--
--   declares_one, mail_servers      conflicts that one declares, and that both do
--   breaking_farm                   aa breaks bb
--   providers                       two packages, either of which gives what a third needs
--   withdrawn                       an instruction in a chroot with libc6, and libgmp that depends
--                                   on it
use Rattle.std.specs.Prelude.{ℕ, List, [], ◌∷◌, None, codes}
use Rattle.farm_model.specs.Universe.{Package, Universe}
use Rattle.plan_model.specs.Plan.{Plan}
use Rattle.plan_model.specs.declared.instructions.Instruction.{Instruction}
use Rattle.plan_model.specs.declared.instructions.Instruction.TheVariants.{Unpack, Configure, Deconfigure}
use Rattle.worked_farms.specs.Notation.{any, entry, plain, frame, lane_in, lone}

-- the two names of each farm
abbrev pub first : ℕ
first = 0

abbrev pub second : ℕ
second = 1

-- xx conflicts with yy, and yy declares nothing
abbrev pub declares_one : Universe
declares_one =
    frame (codes "xx" ∷ codes "yy" ∷ [])
    ((record plain { conflicts = entry (any (codes "yy")) ∷ [] } ∷ []) ∷ (plain ∷ []) ∷ [])

abbrev pub mail_server : Package
mail_server = record plain {
  provides = entry (any (codes "mta")) ∷ [];
  conflicts = entry (any (codes "mta")) ∷ [];
}

abbrev pub mail_servers : Universe
mail_servers =
    frame (codes "mta-a" ∷ codes "mta-b" ∷ []) ((mail_server ∷ []) ∷ (mail_server ∷ []) ∷ [])

abbrev pub only_first : Plan
only_first = lone (Unpack first None ∷ [])

abbrev pub first_then_second : Plan
first_then_second = lone (Unpack first None ∷ Unpack second None ∷ [])

abbrev pub second_then_first : Plan
second_then_first = lone (Unpack second None ∷ Unpack first None ∷ [])

-- ---- breaks

-- aa breaks bb
abbrev pub breaking_farm : Universe
breaking_farm =
    frame (codes "aa" ∷ codes "bb" ∷ [])
    ((record plain { breaks = entry (any (codes "bb")) ∷ [] } ∷ []) ∷ (plain ∷ []) ∷ [])

abbrev pub beside_configured : Plan
beside_configured = lone (Unpack second None ∷ Configure (second ∷ []) ∷ Unpack first None ∷ [])

abbrev pub beside_deconfigured : List Instruction
beside_deconfigured =
    Unpack second None ∷ Configure (second ∷ [])
    ∷ Deconfigure (second ∷ []) ∷ Unpack first None ∷ []

-- ---- still needed

-- pa and pb both provide vv, on which qq depends
abbrev pub providers : Universe
providers =
    frame (codes "pa" ∷ codes "pb" ∷ codes "qq" ∷ [])
    ((record plain { provides = entry (any (codes "vv")) ∷ [] } ∷ [])
    ∷ (record plain { provides = entry (any (codes "vv")) ∷ [] } ∷ [])
    ∷ (record plain { depends = entry (any (codes "vv")) ∷ [] } ∷ [])
    ∷ [])

abbrev pub third : ℕ
third = 2

-- all three are configured, and then these instructions follow
abbrev pub with_all_three : List Instruction → Plan
with_all_three rest =
    lone (Unpack first None ∷ Unpack second None ∷ Unpack third None
    ∷ Configure (first ∷ second ∷ third ∷ []) ∷ rest)

abbrev pub withdrawn : Instruction → Plan
withdrawn instruction = lane_in (codes "a") 1 9 (instruction ∷ []) ∷ []
