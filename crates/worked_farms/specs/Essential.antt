-- Packages that must not be removed (Debian Policy 3.8).
--
--   kept                       aa is Essential, and bb depends on it
--   replaced                   aa 1 is Essential, and aa 2 is not
--   later                      the archive has aa 1; a recipe gives aa 2, which is Essential
use Rattle.std.specs.Prelude.{ℕ, true, List, [], ◌∷◌, Option, None, Some, codes}
use Rattle.deb_relation.specs.declared.operator.Op.{Op}
use Rattle.deb_relation.specs.declared.operator.Op.TheVariants.{Equal}
use Rattle.farm_model.specs.Common.{Universe, variant}
use Rattle.plan_model.specs.Common.{Plan, Rows}
use Rattle.plan_model.specs.declared.instructions.Instruction.TheVariants.{Unpack, Configure, Deconfigure, Remove}
use Rattle.worked_farms.specs.Notation.{any, entry, binary, plain, frame, lone, table_rows}
use Rattle.worked_farms.specs.Growing.{recipe_of, beside}

abbrev pub aa : ℕ
aa = 0

abbrev pub bb : ℕ
bb = 1

abbrev pub kept : Universe
kept =
    frame (codes "aa" ∷ codes "bb" ∷ [])
    ((record plain { essential = true } ∷ [])
    ∷ (record plain { depends = entry (any (codes "aa")) ∷ [] } ∷ [])
    ∷ [])

abbrev pub removed_essential : Plan
removed_essential = lone (Unpack aa None ∷ Remove (aa ∷ []) ∷ [])

abbrev pub deconfigured_essential : Plan
deconfigured_essential = lone (Unpack aa None ∷ Configure (aa ∷ []) ∷ Deconfigure (aa ∷ []) ∷ [])

abbrev pub removed_while_needed : Plan
removed_while_needed =
    lone (Unpack aa None ∷ Unpack bb None ∷ Configure (aa ∷ bb ∷ []) ∷ Remove (aa ∷ []) ∷ [])

-- ---- one version that is Essential, and one that is not

abbrev pub replaced : Universe
replaced =
    frame (codes "aa" ∷ [])
    ((record plain { essential = true } ∷ binary (codes "2") 0 ∷ []) ∷ [])

-- the version of this spelling
abbrev pub exactly : List ℕ → Option (Op × List ℕ)
exactly version = Some (Equal, version)

abbrev pub removed_once_replaced : Plan
removed_once_replaced =
    lone (Unpack aa (exactly (codes "1")) ∷ Unpack aa (exactly (codes "2")) ∷ Remove (aa ∷ []) ∷ [])

abbrev pub later : Universe
later = record (frame (codes "aa" ∷ [])
    ((plain ∷ record (binary (codes "2") 0) { essential = true } ∷ []) ∷ [])) {
      recipes = recipe_of (codes "app") (variant aa 1 ∷ []) ∷ [];
      initial = 1 ∷ [];
    }

-- a lane that unpacks aa in this relation and removes it, beside one that publishes aa 2
abbrev pub removed_beside : Option (Op × List ℕ) → Plan
removed_beside wanted = beside 0 0 100 (Unpack aa wanted ∷ Remove (aa ∷ []) ∷ [])

abbrev pub known_beside : Rows
known_beside = table_rows later ([] ∷ ([] ∷ [] ∷ (variant aa 1 ∷ []) ∷ []) ∷ [])
