-- What words name. The project's own rules.
--
--   word_item       the item of a word, as `gcc=14-1`
--   named_items     those of words
use Rattle.std.specs.Prelude.{ℕ, List, map}
use Rattle.deb_text.specs.Common.{after, before, is_byte}
use Rattle.leg_laws.specs.Named.{Item}
use Rattle.rest_farm.specs.Items.{item_named}

-- what stands before the first `=` and behind it
abbrev pub word_item : List ℕ → Item
word_item word = item_named (before (is_byte 61) word) (after (is_byte 61) word)

abbrev pub named_items : List (List ℕ) → List Item
named_items words = map word_item words
