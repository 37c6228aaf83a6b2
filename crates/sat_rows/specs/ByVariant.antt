-- A value for each variant of a universe, as a list for each name. The project's own words.
--
--   AreValuesOfName  the values of the variants of one name
--   AreOfEach      those of all variants
use Rattle.std.specs.Prelude.{◌≡◌, ℕ, ◌<◌, List, [], length, slice_index_or}
use Rattle.farm_model.specs.Common.{Universe, variant, names, variants}
use Rattle.farm_model.specs.declared.types.Variant.{Variant}

-- each variant of the name has its value in the place of its bit
pub record AreValuesOfName {T : Type 0} (u : Universe) (Is : Variant → T → Type 0) (none : T)
    (n : ℕ)
    (values : List T) : Type 0 where
  pub long : length values ≡ variants u n
  pub each : (b : ℕ) → b < variants u n → Is (variant n b) (slice_index_or values b none)

-- each name has its list
pub record AreOfEach {T : Type 0} (u : Universe) (Is : Variant → T → Type 0) (none : T)
    (lists : List (List T)) : Type 0 where
  pub long : length lists ≡ names u
  pub each : (n : ℕ) → n < names u → AreValuesOfName u Is none n (slice_index_or lists n [])
