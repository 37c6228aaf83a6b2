-- The distinct entries of a universe, and where each entry stands among them. The project's own
-- words.
--
--   IsGrown            the entries keep their numbers as others come
--   IsNumberOf         the number of an entry
--   AreNumbers         those of the entries of a variant
--   AreVariantNumbers  those of all variants
--   AreNeeds           those of the needs of all recipes
--   AreRowsOf          the rows of the entries
use Rattle.std.specs.Prelude.{◌≡◌, ℕ, ◌<◌, List, [], length, Some, slice_get, slice_index_or}
use Rattle.std.specs.List.{AllZip}
use Rattle.deb_relation.specs.Relations.{Entry}
use Rattle.farm_model.specs.Common.{Universe, recipe, pre_depends, depends, satisfies_entry}
use Rattle.farm_model.specs.declared.types.Variant.{Variant}
use Rattle.sat_rows.specs.ByVariant.{AreOfEach}
use Rattle.sat_rows.specs.Rows.{IsRowOf}

-- what stands among the entries keeps its number
abbrev pub IsGrown : List Entry → List Entry → Type 0
IsGrown old new = (n : ℕ) (e : Entry) → slice_get old n ≡ Some e → slice_get new n ≡ Some e

-- the entry stands at this number
abbrev pub IsNumberOf : List Entry → Entry → ℕ → Type 0
IsNumberOf entries e n = slice_get entries n ≡ Some e

pub record Numbers : Type 0 where
  pub pre_depends : List ℕ
  pub depends : List ℕ

pub record AreNumbers (u : Universe) (entries : List Entry) (v : Variant) (numbers : Numbers)
    : Type 0 where
  pub pre_depends : AllZip (IsNumberOf entries) (pre_depends u v) numbers.pre_depends
  pub depends : AllZip (IsNumberOf entries) (depends u v) numbers.depends

-- what is read past the last variant
abbrev pub no_numbers : Numbers
no_numbers = record { pre_depends = []; depends = [] }

abbrev pub AreVariantNumbers : Universe → List Entry → List (List Numbers) → Type 0
AreVariantNumbers u entries = AreOfEach u (AreNumbers u entries) no_numbers

-- each recipe has the numbers of its needs in the place of its own
pub record AreNeeds (u : Universe) (entries : List Entry) (lists : List (List ℕ)) : Type 0 where
  pub long : length lists ≡ length u.recipes
  pub each : (r : ℕ) → r < length u.recipes
      → AllZip (IsNumberOf entries) (recipe u r).needs (slice_index_or lists r [])

-- each entry has its row in the place of its number
pub record AreRowsOf (u : Universe) (entries : List Entry) (rows : List (List ℕ)) : Type 0 where
  pub long : length rows ≡ length entries
  pub each : (n : ℕ) (e : Entry) → slice_get entries n ≡ Some e
      → IsRowOf u (satisfies_entry u e) (slice_index_or rows n [])
