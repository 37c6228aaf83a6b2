-- Variants of two universes, compared by name and version, since each universe has numbers of its
-- own. The project's own rules, unless said. Parameters: u and w universes, v a variant of u, x one
-- of w, s a state.
--
--   Item, item_of              a name and a version; those of a variant
--   is_equal_item, is_same     the same package in the same version
--   is_listed, was_there       an item is in a list; it was in the archive of a state
--   is_published               a state has published the variant
use Rattle.std.specs.Prelude.{ℕ, Bool, ◌&&◌, List}
use Rattle.std.specs.List.{list_any}
use Rattle.std.specs.Ordering.{eq_by_cmp}
use Rattle.std.specs.Str.{bytes_eq}
use Rattle.deb_version.specs.Grammar.{text_cmp}
use Rattle.farm_model.specs.declared.types.Variant.{Variant}
use Rattle.farm_model.specs.Common.{Universe, same, facts, some_variant}
use Rattle.plan_model.specs.Common.{Publication, State, archive}

-- a package in a version
pub record Item : Type 0 where
  pub name : List ℕ
  pub version : List ℕ

-- what a variant of a universe is
unfoldable pub item_of : Universe → Variant → Item
item_of u v = record { name = (facts u v).name; version = (facts u v).version }

-- the same name, and versions that are equal (Debian Policy 5.6.12)
unfoldable pub is_equal_item : Item → Item → Bool
is_equal_item a b = bytes_eq a.name b.name && eq_by_cmp text_cmp a.version b.version

abbrev pub is_same : Universe → Variant → Universe → Variant → Bool
is_same u v w x = is_equal_item (item_of u v) (item_of w x)

-- the item is one of the list
abbrev pub is_listed : List Item → Item → Bool
is_listed items item = list_any (λ other. is_equal_item other item) items

-- the archive of the state has it
abbrev pub was_there : Universe → State → Item → Bool
was_there u s item =
    some_variant u (λ v. archive u s.published v && is_equal_item (item_of u v) item)

-- the state has published the variant
abbrev pub is_published : State → Variant → Bool
is_published s v = list_any (λ (q : Publication). same q.variant v) s.published
