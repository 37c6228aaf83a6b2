-- A list of variants, as `name (= version), name (= version)`: it is written as a Provides field is
-- (Debian Policy 7.5).
--
--   find_variant table name version   the variant of a name with this version
--   variant_at table entry            the variant that an item of a list names
--   variants_in table entries         the variants of these items, or the first fault
--   list_at table text                the variants of a list, or the first fault
--   variant_words n vs                for each of n names a word, with a bit for each variant of
--                                     the list
use Rattle.std.specs.Prelude.{ℕ, ◌^◌, Bool, ◌==◌, List, [], ◌∷◌, map, filter, fold, get_or, position, ok_or, if◌then◌else◌, Option, Some, None, Result, bit_or}
use Rattle.std.specs.List.{range_with_len}
use Rattle.std.specs.Option.{option_map, option_and_then}
use Rattle.std.specs.Ordering.{is_eq}
use Rattle.std.specs.Str.{bytes_eq}
use Rattle.deb_text.specs.Common.{place_in, ◌>>=◌, judged, goods, item_fault}
use Rattle.deb_version.specs.Grammar.{text_cmp}
use Rattle.deb_relation.specs.Common.{relations_at, Entry}
use Rattle.deb_relation.specs.declared.kind.Kind.TheVariants.{Provide}
use Rattle.deb_relation.specs.declared.operator.Op.{Op}
use Rattle.farm_universe.specs.declared.error.TheConstants.{TWICE, UNKNOWN_VARIANT}
use Rattle.farm_model.specs.Common.{variant, contains, Package}
use Rattle.farm_model.specs.declared.types.Variant.{Variant}
use Rattle.farm_universe.specs.PackagesText.{PackageTable}

-- the package has this version, however it is written (Policy 5.6.12)
abbrev pub has_version : List ℕ → Package → Bool
has_version version v = is_eq (text_cmp version v.version)

-- the variant of the name with this number
abbrev pub variant_of : PackageTable → List ℕ → Option ℕ → Option Variant
variant_of table version None = None
variant_of table version (Some n) =
    option_map (variant n) (position (has_version version) (get_or table.packages n []))

-- the variant of a name with this version
unfoldable pub find_variant : PackageTable → List ℕ → List ℕ → Option Variant
find_variant table name version = variant_of table version (place_in bytes_eq table.names name)

-- the name and the version of an alternative that has both, and no qualifier
abbrev pub pinned_by : Option (List ℕ) → List ℕ → Option (Op × List ℕ) → Option (List ℕ × List ℕ)
pinned_by (Some qualifier) name relation = None
pinned_by None name None = None
pinned_by None name (Some relation) = Some (name, relation.1)

-- an item `name (= version)`: it has one alternative, since no list of variants has a bar
unfoldable pub pinned : Entry → Option (List ℕ × List ℕ)
pinned [] = None
pinned (a ∷ []) = pinned_by a.qualifier a.name a.relation
pinned (a ∷ b ∷ more) = None

-- the variant of such an item
unfoldable pub variant_at : PackageTable → Entry → Result Variant ℕ
variant_at table entry =
    ok_or (option_and_then (λ item. find_variant table item.0 item.1) (pinned entry))
    UNKNOWN_VARIANT

-- a variant that stands twice, however its version is written
abbrev pub twice : List Variant → Variant → Option ℕ
twice before v = if contains before v then Some TWICE else None

-- the variants of these items, or the first fault, item by item
unfoldable pub variants_in : PackageTable → List Entry → Result (List Variant) ℕ
variants_in table entries =
    judged (item_fault (variant_at table) twice) (goods (variant_at table)) entries

-- the faults of the field come first
unfoldable pub list_at : PackageTable → List ℕ → Result (List Variant) ℕ
list_at table text = relations_at Provide text >>= variants_in table

-- ---- words

-- a word with one more bit
abbrev pub with_bit : ℕ → ℕ → ℕ
with_bit word bit = bit_or word (2 ^ bit)

-- the bits of the variants whose name has this number
abbrev pub word_of : List Variant → ℕ → ℕ
word_of vs n = fold (λ word v. with_bit word v.bit) 0 (filter (λ v. v.name == n) vs)

-- the words of this many names
abbrev pub variant_words : ℕ → List Variant → List ℕ
variant_words n vs = map (word_of vs) (range_with_len 0 n)
