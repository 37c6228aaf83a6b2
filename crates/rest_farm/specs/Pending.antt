-- What a recipe gives that the publish of another build may have put into the archive (725). The
-- project's own rules.
--
--   is_its_own      the publish that was open is of the build that the recipe counts as
--   clashes         an open publish of another build may have published an item
use Rattle.std.specs.Prelude.{Bool, not, ◌&&◌, ◌||◌, List}
use Rattle.leg_laws.specs.Named.{Item, is_listed}
use Rattle.rest_farm.specs.declared.fate.Fate.{Fate}
use Rattle.rest_farm.specs.declared.fate.WantedRecipe.{WantedRecipe}
use Rattle.rest_farm.specs.Fates.{is_built}

abbrev pub is_its_own : Fate → WantedRecipe → Item → Bool
is_its_own fate recipe item =
    is_built fate && recipe.has_ended
    && (recipe.is_open || is_listed recipe.built_before.items item)

-- the items of pending are those of publishes that are open, or were
abbrev pub clashes : (pending : List Item) → Fate → WantedRecipe → Item → Bool
clashes pending fate recipe item =
    is_listed pending item && not (is_its_own fate recipe item)
