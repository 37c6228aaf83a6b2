-- What an item of a list of variants names in a universe. Parameters: u a universe.
--
--   variant_of u version n    the variant of the name of this number with this version
--   item_variant u e          the variant that an item `NAME (= VERSION)` names
use Rattle.std.specs.Prelude.{ℕ, List, [], position, slice_index_or, Option, bytes_eq, option_and_then, option_map}
use Rattle.deb_text.specs.Groups.{place_in}
use Rattle.deb_relation.specs.Relations.{Entry}
use Rattle.farm_model.specs.Common.{variant, Universe}
use Rattle.farm_model.specs.declared.types.Variant.{Variant}
use Rattle.farm_universe.specs.ListText.{has_version, pinned}

-- however the version is written
abbrev pub variant_of : Universe → List ℕ → ℕ → Option Variant
variant_of u version n =
    option_map (variant n) (position (has_version version) (slice_index_or u.packages n []))

unfoldable pub find_variant : Universe → List ℕ → List ℕ → Option Variant
find_variant u name version =
    option_and_then (variant_of u version) (place_in bytes_eq u.names name)

unfoldable pub item_variant : Universe → Entry → Option Variant
item_variant u e = option_and_then (λ is. find_variant u is.0 is.1) (pinned e)
