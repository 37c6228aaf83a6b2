-- Rows as lists of variants: by name number and then by bit. The project's own words. Parameters:
-- u the universe.
--
--   IsOfUniverse            a variant of the universe
--   row_variants u row      the variants of a row, in order
--   variants_at u text      the variants that a list says, in order and none of the initial archive
--   row_at u text           the row of such a list
use Rattle.std.specs.Prelude.{ℕ, ◌<◌, Bool, true, not, ◌&&◌, ◌||◌, ◌==◌, nat_lt, List, [], ◌∷◌, map, filter, Option, Some, None, Result, Ok, Err, if◌then◌else◌}
use Rattle.std.specs.List.{flat_map, range_with_len}
use Rattle.std.specs.Option.{option_map, option_and_then}
use Rattle.bit_rows.specs.Sets.{variants_of}
use Rattle.deb_relation.specs.Common.{relations_at, Entry, Relations}
use Rattle.deb_relation.specs.declared.kind.Kind.TheVariants.{Provide}
use Rattle.farm_model.specs.Common.{Universe, names, variant, variants, initial, IsKnown}
use Rattle.farm_model.specs.declared.types.Variant.{Variant}
use Rattle.farm_universe.specs.Items.{item_variant}
use Rattle.farm_universe.specs.ListText.{variant_words}

-- a variant of one of the universe's names
pub record IsOfUniverse (u : Universe) (v : Variant) : Type 0 where
  pub name : v.name < names u
  pub known : IsKnown u v

-- ---- the variants of a row

-- the variants of a name
abbrev pub named_variants : Universe → ℕ → List Variant
named_variants u n = map (variant n) (range_with_len 0 (variants u n))

-- the variants of a list whose bit is set
abbrev pub those_in_row : List ℕ → List Variant → List Variant
those_in_row row vs = filter (λ v. variants_of row v.name v.bit) vs

-- those of a name whose bit is set
abbrev pub named_in_row : Universe → List ℕ → ℕ → List Variant
named_in_row u row n = those_in_row row (named_variants u n)

-- by name number, and then by bit
abbrev pub row_variants : Universe → List ℕ → List Variant
row_variants u row = flat_map (named_in_row u row) (range_with_len 0 (names u))

-- ---- the row of a list

-- v has a later name or, of the same name, a higher bit
abbrev pub is_behind : Option Variant → Variant → Bool
is_behind None v = true
is_behind (Some w) v = nat_lt w.name v.name || (w.name == v.name && nat_lt w.bit v.bit)

-- a variant that may come behind another: it is in order, and not in the initial archive
abbrev pub comes_behind : Universe → Option Variant → Variant → Bool
comes_behind u last v = is_behind last v && not (initial u v)

-- v ahead of the others, where it may stand there
abbrev pub ahead_of : Bool → Variant → Option (List Variant) → Option (List Variant)
ahead_of fine v vs = if fine then option_map (λ ws. v ∷ ws) vs else None

-- the variants of these items, each behind the one before it
abbrev pub variants_behind : Universe → Option Variant → Relations → Option (List Variant)
variants_behind u last [] = Some []
variants_behind u last (item ∷ items) =
    option_and_then
    (λ v. ahead_of (comes_behind u last v) v (variants_behind u (Some v) items))
    (item_variant u item)

abbrev pub row_of_items : Universe → Result Relations ℕ → Option (List ℕ)
row_of_items u (Ok items) = option_map (variant_words (names u)) (variants_behind u None items)
row_of_items u (Err code) = None

-- the row of a list of variants, written as a Provides field is (Debian Policy 7.5)
unfoldable pub row_at : Universe → List ℕ → Option (List ℕ)
row_at u text = row_of_items u (relations_at Provide text)
