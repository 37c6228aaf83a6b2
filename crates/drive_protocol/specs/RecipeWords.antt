-- The words of a recipe beside its name, as the farm text has them: what is built by which source,
-- in which mode, with how many steps and how much scratch space, under which profiles. A universe
-- keeps no source, mode or profiles of a recipe, so the farm text is read a second time.
--
--   source_words value     the name and the version of a value `name (= version)`
--   recipe_words p         the words of a recipe's paragraph, a space before each
--   all_recipe_words farm  those of each recipe of a farm text, in its order
use Rattle.std.specs.Prelude.{ℕ, Bool, List, [], ◌∷◌, ◌++◌, map, filter, drop, codes, Option, Some, None, is_some, Result, Ok, Err}
use Rattle.std.specs.Fmt.{decimal}
use Rattle.std.specs.Option.{option_and_then, unwrap_or}
use Rattle.deb_text.specs.Common.{number_at, words, spaced}
use Rattle.deb_stanza.specs.Stanza.{Paragraph, value_of, paragraphs_at}
use Rattle.deb_relation.specs.Common.{relations_at, Relations}
use Rattle.deb_relation.specs.declared.kind.Kind.TheVariants.{Provide}
use Rattle.farm_universe.specs.ListText.{pinned}

-- what was read; nothing of what has a fault
abbrev pub read_or_none : {X E : Type 0} → Result (List X) E → List X
read_or_none (Ok xs) = xs
read_or_none (Err e) = []

abbrev pub both : Option (List ℕ × List ℕ) → List (List ℕ)
both None = []
both (Some item) = item.0 ∷ item.1 ∷ []

-- a list of one item `name (= version)`
abbrev pub of_one : Relations → List (List ℕ)
of_one [] = []
of_one (entry ∷ []) = both (pinned entry)
of_one (entry ∷ next ∷ more) = []

-- the name and the version of the source
abbrev pub source_words : Option (List ℕ) → List (List ℕ)
source_words None = []
source_words (Some text) = of_one (read_or_none (relations_at Provide text))

-- absent: 0
abbrev pub number_in : Option (List ℕ) → ℕ
number_in value = unwrap_or (option_and_then number_at value) 0

-- the mode (absent: `full`), the steps, the scratch space in KiB; numbers without zeros in front
abbrev pub measure_words : Paragraph → List (List ℕ)
measure_words p =
    unwrap_or (value_of p (codes "Mode")) (codes "full")
    ∷ decimal (number_in (value_of p (codes "Steps")))
    ∷ decimal (number_in (value_of p (codes "Scratch"))) ∷ []

abbrev pub profile_words : Paragraph → List (List ℕ)
profile_words p = words (unwrap_or (value_of p (codes "Profiles")) [])

abbrev pub recipe_words : Paragraph → List ℕ
recipe_words p =
    spaced (source_words (value_of p (codes "Source"))) ++ spaced (measure_words p)
    ++ spaced (profile_words p)

abbrev pub is_recipe : Paragraph → Bool
is_recipe p = is_some (value_of p (codes "Recipe"))

-- the first paragraph describes the archive
abbrev pub words_in : List Paragraph → List (List ℕ)
words_in ps = map recipe_words (filter is_recipe (drop 1 ps))

abbrev pub all_recipe_words : List ℕ → List (List ℕ)
all_recipe_words farm = words_in (read_or_none (paragraphs_at farm))
