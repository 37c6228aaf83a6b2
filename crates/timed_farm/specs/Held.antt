-- Waits that nothing in the archive lets pass.
--
--   NoneOf       no variant of a name in the archive satisfies an entry
--   NoneAmong    none of these names
--   NoneBy       none of a name with a variant that satisfies an alternative
use Rattle.std.specs.Prelude.{◌≡◌, ℕ, ◌<◌, Bool, true, false, ◌&&◌, List, Some, slice_get}
use Rattle.deb_relation.specs.Relations.{Atom, Entry}
use Rattle.farm_model.specs.Common.{some_below, Universe, names, variant, variants, satisfies, satisfies_entry}
use Rattle.farm_model.specs.declared.types.Variant.{Variant}
use Rattle.item_index.specs.declared.item.Item.{Item}

abbrev pub NoneOf : Universe → (Variant → Bool) → Entry → ℕ → Type 0
NoneOf u there e n =
    some_below (variants u n) (λ b. there (variant n b) && satisfies_entry u e (variant n b))
    ≡ false

abbrev pub NoneAmong : Universe → (Variant → Bool) → Entry → List (Item ℕ) → Type 0
NoneAmong u there e items = (k : ℕ) (at : Item ℕ) → slice_get items k ≡ Some at
    → at.owner < names u → NoneOf u there e at.owner

abbrev pub NoneBy : Universe → (Variant → Bool) → Entry → Atom → Type 0
NoneBy u there e a = (n b : ℕ) → b < variants u n → satisfies u a (variant n b) ≡ true
    → NoneOf u there e n
