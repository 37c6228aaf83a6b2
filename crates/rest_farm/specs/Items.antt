-- Lists that are asked by name. The project's own words. Parameters: key the name of an element.
--
--   item_named      the item of a name and a version
--   is_item         an item is equal to the wanted one
--   is_name         a name is the wanted one
--   is_at           the element at a place of a list passes
--   NoneAt          the element at none of some places passes
--   AreKeyed        each element of a list is listed under its name, with its place
use Rattle.std.specs.Prelude.{◌≡◌, ℕ, Bool, false, List, Some, slice_get}
use Rattle.std.specs.Option.{option_map_or}
use Rattle.std.specs.Str.{bytes_eq}
use Rattle.item_index.specs.declared.item.Item.{Item as Place}
use Rattle.item_index.specs.Items.{item, IsListed}
use Rattle.leg_laws.specs.Named.{Item, is_equal_item}

abbrev pub item_named : List ℕ → List ℕ → Item
item_named name version = record { name = name; version = version }

abbrev pub is_item : (wanted other : Item) → Bool
is_item wanted other = is_equal_item other wanted

abbrev pub is_name : (wanted other : List ℕ) → Bool
is_name wanted other = bytes_eq other wanted

-- the name of an item
abbrev pub item_key : Item → List ℕ
item_key i = i.name

-- a name itself
abbrev pub name_key : List ℕ → List ℕ
name_key name = name

module _ {X : Type 0} where
  abbrev pub is_at : (X → Bool) → List X → ℕ → Bool
  is_at test xs place = option_map_or test (slice_get xs place) false

  abbrev pub NoneAt : (X → Bool) → List X → List (Place ℕ) → Type 0
  NoneAt test xs places = (k : ℕ) (at : Place ℕ) → slice_get places k ≡ Some at
      → is_at test xs at.owner ≡ false

  abbrev pub AreKeyed : (key : X → List ℕ) → List X → List (List (Place ℕ)) → Type 0
  AreKeyed key xs lists =
      (k : ℕ) (x : X) → slice_get xs k ≡ Some x → IsListed lists (key x) (item k 0 0)
