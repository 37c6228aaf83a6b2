-- Which variants an unpack may take.
--
--   AreOfArchive    what is surely in the archive, and what may be
--   IsPick          the word of the variants that an unpack may take, or none
use Rattle.std.specs.Prelude.{◌≡◌, ℕ, Bool, true, List, Option, Some, None}
use Rattle.clause_kernel.specs.Rows.{word_has}
use Rattle.deb_relation.specs.declared.operator.Op.{Op}
use Rattle.farm_model.specs.Common.{Universe, IsKnown}
use Rattle.farm_model.specs.declared.types.Variant.{Variant}
use Rattle.plan_model.specs.Common.{newest, candidates}

-- what is known may be there, and what may be there is of the universe
pub record AreOfArchive (u : Universe) (known there : Variant → Bool) : Type 0 where
  pub known_there : (v : Variant) → known v ≡ true → there v ≡ true
  pub there_known : (v : Variant) → there v ≡ true → IsKnown u v

-- no known variant is wanted; or the highest one is this, and the word has the candidates from it
-- up
abbrev pub IsPick : Universe → (known there : Variant → Bool) → ℕ → Option (Op × List ℕ)
    → Option ℕ → Type 0
IsPick u known there name wanted None = newest u known name wanted ≡ None
IsPick u known there name wanted (Some word) =
    (highest : ℕ) × (newest u known name wanted ≡ Some highest)
    × (word_has word ≡ candidates u there name wanted highest)
    × (word_has word highest ≡ true)
