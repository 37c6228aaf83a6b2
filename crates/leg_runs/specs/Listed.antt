-- The items of a list in a text. The project's own rules.
--
--   entry_items     the item of an entry `name (= version)`; none of any other
--   listed_items    the items of a field, if it is there; none of what is no list
use Rattle.std.specs.Prelude.{ℕ, List, [], ◌∷◌, Option, Some, None, Result, Ok, Err}
use Rattle.std.specs.List.{flat_map}
use Rattle.deb_relation.specs.Common.{relations_at, Entry}
use Rattle.deb_relation.specs.declared.kind.Kind.TheVariants.{Provide}
use Rattle.farm_universe.specs.ListText.{pinned}
use Rattle.leg_laws.specs.Named.{Item}
use Rattle.rest_farm.specs.Items.{item_named}

abbrev pub pinned_item : Option (List ℕ × List ℕ) → List Item
pinned_item None = []
pinned_item (Some item) = item_named item.0 item.1 ∷ []

abbrev pub entry_items : Entry → List Item
entry_items entry = pinned_item (pinned entry)

abbrev pub items_in : Result (List Entry) ℕ → List Item
items_in (Ok entries) = flat_map entry_items entries
items_in (Err code) = []

abbrev pub listed_items : Option (List ℕ) → List Item
listed_items None = []
listed_items (Some text) = items_in (relations_at Provide text)
