-- The items that the words of a question name. The project's own rules.
--
--   items_came, items_withdrawn    those that came by hand, and those that are withdrawn
use Rattle.std.specs.Prelude.{List, map}
use Rattle.leg_laws.specs.Named.{Item}
use Rattle.rest_texts.specs.Said.{named_items}
use Rattle.rest_texts.specs.declared.words.Said.{Said}

abbrev pub items_came : Said → List Item
items_came said = named_items (map (λ word. word.now) said.came.now)

abbrev pub items_withdrawn : Said → List Item
items_withdrawn said = named_items (map (λ word. word.now) said.withdrawn.now)
