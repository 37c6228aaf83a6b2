-- The items of the variants of a universe, listed under the names in them. The project's own words.
--
--   AreNaming, IsNaming    each alternative of a field of each variant of a name is listed under
--   its
--                          name, and of all names
--   IsProviding            each item of Provides is
use Rattle.std.specs.Prelude.{ℕ, ◌<◌, List}
use Rattle.deb_relation.specs.Relations.{Relations}
use Rattle.farm_model.specs.Common.{Package, Universe, variant, variants, package_of}
use Rattle.farm_model.specs.declared.types.Variant.{Variant}
use Rattle.item_index.specs.declared.item.Item.{Item}
use Rattle.item_index.specs.Items.{IsListedField}

-- the field of each variant of the name
abbrev pub AreNaming : Universe → (Package → Relations) → ℕ → List (List (Item Variant)) → Type 0
AreNaming u field n lists =
    (b : ℕ) → b < variants u n
    → IsListedField lists (variant n b) (field (package_of u (variant n b)))

-- the field of each variant of the universe
pub record IsNaming (u : Universe) (field : Package → Relations)
    (lists : List (List (Item Variant)))
    : Type 0 where
  pub names : (n : ℕ) → AreNaming u field n lists

abbrev pub IsProviding : Universe → List (List (Item Variant)) → Type 0
IsProviding u lists = IsNaming u (λ binary. binary.provides) lists
