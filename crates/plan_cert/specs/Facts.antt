-- What is in the archive whenever some variant of a set is: facts of all variants of the set. The
-- project's own rules. Parameters: u a universe, p a plan, rows what its lanes know; sources the
-- set, new what may be such facts, before what is known ahead of a publish.
--
--   IsFirstSource          the first output that is in the set
--   IsKnownWith            of one publish
--   IsKnownAt              of the publish at a place, if there is one
--   AreFacts               of all
use Rattle.std.specs.Prelude.{◌≡◌, ◌⊎◌, ℕ, suc, ◌<◌, Bool, true, false, List, take, Some, slice_get}
use Rattle.farm_model.specs.Common.{Universe, contains, outputs}
use Rattle.farm_model.specs.declared.types.Variant.{Variant}
use Rattle.plan_model.specs.Common.{Rows, IsFact, Plan, instruction_at}
use Rattle.plan_model.specs.declared.instructions.Instruction.TheVariants.{Publish}

-- none of the first n of these variants is in the set
abbrev pub HasNoSource : (Variant → Bool) → List Variant → ℕ → Type 0
HasNoSource sources vs n =
    (k : ℕ) (c : Variant) → k < n → slice_get vs k ≡ Some c → sources c ≡ false

-- variant n is the first of them that is
pub record IsFirstSource (sources : Variant → Bool) (vs : List Variant) (n : ℕ) : Type 0 where
  pub variant : Variant
  pub at : slice_get vs n ≡ Some variant
  pub hit : sources variant ≡ true
  pub none : HasNoSource sources vs n

-- with each output of the recipe that is in the set, what was known ahead of the publish and the
-- outputs up to it are all that there may be
abbrev pub IsKnownWith : Universe → (Variant → Bool) → (Variant → Bool) → (Variant → Bool) → ℕ
    → Type 0
IsKnownWith u sources new before r =
    (m : ℕ) (c v : Variant) → slice_get (outputs u r) m ≡ Some c → sources c ≡ true → new v ≡ true
    → (before v ≡ true) ⊎ (contains (take (suc m) (outputs u r)) v ≡ true)

abbrev pub IsKnownAt : Universe → Plan → Rows → (Variant → Bool) → (Variant → Bool) → ℕ → ℕ
    → Type 0
IsKnownAt u p rows sources new j k =
    (r : ℕ) → instruction_at p j k ≡ Some (Publish r) → IsKnownWith u sources new (rows j k) r

-- each of `new` is a fact of each of `sources`
abbrev pub AreFacts : Universe → Plan → Rows → (Variant → Bool) → (Variant → Bool) → Type 0
AreFacts u p rows sources new =
    (c v : Variant) → sources c ≡ true → new v ≡ true → IsFact u p rows c v
