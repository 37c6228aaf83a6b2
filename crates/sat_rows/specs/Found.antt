-- Variants found among those that an index lists, as words of names. The project's own words.
--
--   among             the bit is set in a word under this number
--   Puts              the bits of a word are put under a number
--   shares_other, hits_other
--                     a word of another number shares a bit with the one at its number
--   IsFound           those found are the variants of a universe that pass a test
--   Finds             the variants that pass are put to those found
--   GrowsBy           some that pass are put to them
--   alternative_passes  a test of what may be there
--   some_atom         some alternative of a field of a variant passes
--   passes_there      the universe has the owner of an item, and the alternative there passes
--   HasItems          the owners of items whose alternative passes were found
use Rattle.std.specs.Prelude.{◌≡◌, ℕ, nat_lt, Bool, true, false, not, ◌&&◌, ◌||◌, ◌==◌, List, Option, None, Some, slice_index}
use Rattle.std.specs.List.{list_any}
use Rattle.clause_kernel.specs.Rows.{word_has}
use Rattle.clause_kernel.specs.Kernels.{shares_bit}
use Rattle.deb_relation.specs.Relations.{Atom, Relations}
use Rattle.farm_model.specs.Common.{Package, Universe, variants, package_of}
use Rattle.farm_model.specs.declared.types.Variant.{Variant}
use Rattle.item_index.specs.declared.item.Item.{Item}
use Rattle.item_index.specs.Items.{any_atom, item_of, IsIn}
use Rattle.sat_rows.specs.Rows.{variant_passes}
use Rattle.sat_rows.specs.declared.found.NumberWord.{NumberWord}

-- the bit is set in a word under this number
abbrev pub among : List NumberWord → ℕ → ℕ → Bool
among vs n b = list_any (λ w. (n == w.number) && word_has w.word b) vs

-- the bits of the word are put under the number
abbrev pub Puts : ℕ → ℕ → List NumberWord → List NumberWord → Type 0
Puts number word old new =
    (n b : ℕ) → among new n b ≡ (among old n b || ((n == number) && word_has word b))

-- a word of another number than this shares a bit with the one at its number
abbrev pub shares_other : ℕ → List ℕ → NumberWord → Bool
shares_other but words at =
    not (at.number == but) && shares_bit (slice_index words at.number) at.word

abbrev pub hits_other : ℕ → List ℕ → List NumberWord → Bool
hits_other but words vs = list_any (shares_other but words) vs

-- the variants of the universe that pass, and no others
abbrev pub IsFound : Universe → (Variant → Bool) → List NumberWord → Type 0
IsFound u p vs = (n b : ℕ) → among vs n b ≡ variant_passes u p n b

-- those that pass are put to the old ones
abbrev pub Finds : Universe → (Variant → Bool) → List NumberWord → List NumberWord → Type 0
Finds u p old new = (n b : ℕ) → among new n b ≡ (among old n b || variant_passes u p n b)

-- some that pass are put to the old ones
pub record GrowsBy (u : Universe) (p : Variant → Bool) (old new : List NumberWord) : Type 0 where
  pub kept : (n b : ℕ) → among old n b ≡ true → among new n b ≡ true
  pub passing : (n b : ℕ) → among new n b ≡ true → (among old n b || variant_passes u p n b) ≡ true

-- what is there passes; what is not there does not
abbrev pub alternative_passes : (Atom → Bool) → Option Atom → Bool
alternative_passes test None = false
alternative_passes test (Some a) = test a

-- some alternative of the field of the variant passes
abbrev pub some_atom : Universe → (Package → Relations) → (Atom → Bool) → Variant → Bool
some_atom u field test v = any_atom test (field (package_of u v))

-- the universe has the item's owner, and the alternative at its place passes
abbrev pub passes_there : Universe → (Package → Relations) → (Atom → Bool) → Item Variant → Bool
passes_there u field test at =
    nat_lt at.owner.bit (variants u at.owner.name)
    && alternative_passes test (item_of at (field (package_of u at.owner)))

-- the owners of the items whose alternative passes were found
abbrev pub HasItems : Universe → (Package → Relations) → (Atom → Bool) → List (Item Variant)
    → List NumberWord → Type 0
HasItems u field test items vs =
    (at : Item Variant) → IsIn items at → passes_there u field test at ≡ true
    → among vs at.owner.name at.owner.bit ≡ true
