-- The row of a test: the set of the variants of a universe that pass it. The project's own words.
--
--   variant_passes                the universe has the variant, and it passes
--   IsWordFor, IsRowOf            the word of one name, and the row of all names
--   IsSharedRow                   a row, or none where no variant passes
--   nth_entry                     the entry of a number
--   of_another_name               a test of variants of other names alone
--   conflicts_with, broken_by, breakers_of
--                                 the tests of Conflicts and Breaks (Debian Policy 7.3, 7.4)
use Rattle.std.specs.Prelude.{◌≡◌, ℕ, Bool, false, not, ◌&&◌, ◌==◌, nat_lt, List, [], length, Option, Some, None, slice_index_or}
use Rattle.clause_kernel.specs.Rows.{word_has}
use Rattle.bit_rows.specs.Sets.{variants_of}
use Rattle.deb_relation.specs.Relations.{Entry, Relations}
use Rattle.farm_model.specs.Common.{Universe, variant, names, variants, conflict, breaks}
use Rattle.farm_model.specs.declared.types.Variant.{Variant}

-- the universe has the variant, and it passes
abbrev pub variant_passes : Universe → (Variant → Bool) → ℕ → ℕ → Bool
variant_passes u p n b = nat_lt b (variants u n) && p (variant n b)

-- the bits of the word are the variants of this name that pass
abbrev pub IsWordFor : Universe → (Variant → Bool) → ℕ → ℕ → Type 0
IsWordFor u p n word = (b : ℕ) → word_has word b ≡ variant_passes u p n b

-- the row has a word for each name, and its bits are the variants that pass
pub record IsRowOf (u : Universe) (p : Variant → Bool) (row : List ℕ) : Type 0 where
  pub long : length row ≡ names u
  pub set : (n b : ℕ) → variants_of row n b ≡ variant_passes u p n b

-- a row that is left out where no variant passes
abbrev pub IsSharedRow : Universe → (Variant → Bool) → Option (List ℕ) → Type 0
IsSharedRow u p None = (n b : ℕ) → variant_passes u p n b ≡ false
IsSharedRow u p (Some row) = IsRowOf u p row

-- the entry of a number; past the last one an entry without alternatives
abbrev pub nth_entry : Relations → ℕ → Entry
nth_entry es i = slice_index_or es i []

-- the variant has another name than v, and passes
abbrev pub of_another_name : Variant → (Variant → Bool) → Variant → Bool
of_another_name v p w = not (w.name == v.name) && p w

-- the other variants that are in conflict with v, declared by either (Policy 7.4)
abbrev pub conflicts_with : Universe → Variant → Variant → Bool
conflicts_with u v = of_another_name v (conflict u v)

-- the other variants that v breaks (Policy 7.3)
abbrev pub broken_by : Universe → Variant → Variant → Bool
broken_by u v = of_another_name v (breaks u v)

-- the other variants that break v
abbrev pub breakers_of : Universe → Variant → Variant → Bool
breakers_of u v = of_another_name v (λ w. breaks u w v)
