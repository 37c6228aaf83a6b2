-- How the readers of the farm text go on. Only the contracts of private functions cite this file.
--
--   add_variant, add_item   the variants of a list after one more, and after an item
--   taken_with              words with the bits of more variants
use Rattle.std.specs.Prelude.{ℕ, List, [], ◌∷◌, ◌++◌, fold, Result, set, get_or}
use Rattle.deb_text.specs.Steps.{answer, read_step}
use Rattle.deb_relation.specs.Relations.{Entry}
use Rattle.farm_model.specs.declared.types.Variant.{Variant}
use Rattle.farm_universe.specs.ListText.{variant_at, twice, with_bit}
use Rattle.farm_universe.specs.PackagesText.{PackageTable}

-- the list with one more variant, or the code of its fault
unfoldable pub add_variant : List Variant → Variant → Result (List Variant) ℕ
add_variant vs v = answer (twice vs v) (vs ++ v ∷ [])

-- the list after an item, or the code of its fault
unfoldable pub add_item : PackageTable → List Variant → Entry → Result (List Variant) ℕ
add_item table vs entry = read_step (variant_at table) add_variant vs entry

-- the words with the bit of one more variant
abbrev pub word_set : List ℕ → Variant → List ℕ
word_set words v = set words v.name (with_bit (get_or words v.name 0) v.bit)

-- the words with the bits of all of these
abbrev pub taken_with : List ℕ → List Variant → List ℕ
taken_with words vs = fold word_set words vs
