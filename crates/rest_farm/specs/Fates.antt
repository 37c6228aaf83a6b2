-- What becomes of the recipes of a farm once a run has stopped. The project's own rules.
--
--   has_all, has_some   a list has all of some items, and there are some; it has one of them
--   fate_of             the first of these that holds, by what is known of the recipe:
--                         it is given up
--                         its name was published, and it is not wanted anew: it is done
--                         all that it gives is in the archive, and it is not wanted anew: it is done
--                         some of what it gives is in the archive: refused
--                         some of what it gives is withdrawn: refused
--                         it counts as built, and is not wanted anew: it is left, and built by now
--                         nothing says how it is built: refused
--                         any other: it is left as it is
--   facts_of            what is known of a recipe: what words and runs say of its name, what its
--                       texts say
--   fate_in             what becomes of a recipe, by that
--   is_left, is_built   it is left; it is left, and built by now
--   left_in             the recipes that are left, in their order
use Rattle.std.specs.Prelude.{Bool, true, false, not, ◌&&◌, ◌||◌, ◌==◌, List, filter, length, if◌then◌else◌}
use Rattle.std.specs.List.{list_all, list_any}
use Rattle.leg_laws.specs.Left.{has_name}
use Rattle.leg_laws.specs.Named.{Item, is_listed}
use Rattle.rest_farm.specs.declared.fate.Fate.{Fate}
use Rattle.rest_farm.specs.declared.fate.Fate.TheVariants.{GivenUp, Published, There, Partly, Withdrawn, Built, Unbuilt, Left}
use Rattle.rest_farm.specs.declared.fate.RecipeFacts.{RecipeFacts}
use Rattle.rest_farm.specs.declared.fate.RecipeNames.{RecipeNames}
use Rattle.rest_farm.specs.declared.fate.WantedRecipe.{WantedRecipe}

abbrev pub has_all : List Item → List Item → Bool
has_all list items = not (length items == 0) && list_all (λ i. is_listed list i) items

abbrev pub has_some : List Item → List Item → Bool
has_some list items = list_any (λ i. is_listed list i) items

-- the archive has nothing that it gives, and nothing of that is withdrawn
abbrev pub left_fate : RecipeFacts → Fate
left_fate facts =
    if facts.is_built && not facts.is_wanted_anew then Built
    else (if facts.is_bare then Unbuilt else Left)

-- it is neither given up nor published
abbrev pub open_fate : RecipeFacts → (outputs archive gone : List Item) → Fate
open_fate facts outputs archive gone =
    if has_all archive outputs && not facts.is_wanted_anew then There
    else (if has_some archive outputs then Partly
    else (if has_some gone outputs then Withdrawn else left_fate facts))

abbrev pub fate_of : RecipeFacts → (outputs archive gone : List Item) → Fate
fate_of facts outputs archive gone =
    if facts.is_given_up then GivenUp
    else (if facts.is_published && not facts.is_wanted_anew then Published
    else open_fate facts outputs archive gone)

abbrev pub facts_of : RecipeNames → WantedRecipe → RecipeFacts
facts_of names recipe = record {
  is_given_up = has_name names.given_up.now recipe.name;
  is_wanted_anew = has_name names.wanted_anew.now recipe.name;
  is_published = has_name names.published.now recipe.name;
  is_built = has_name names.said_built.now recipe.name || recipe.has_ended;
  is_bare = recipe.is_bare;
}

abbrev pub fate_in : RecipeNames → (archive gone : List Item) → WantedRecipe → Fate
fate_in names archive gone recipe =
    fate_of (facts_of names recipe) recipe.outputs.items archive gone

abbrev pub is_built : Fate → Bool
is_built Built = true
is_built GivenUp = false
is_built Published = false
is_built There = false
is_built Partly = false
is_built Withdrawn = false
is_built Unbuilt = false
is_built Left = false

abbrev pub is_left : Fate → Bool
is_left Built = true
is_left Left = true
is_left GivenUp = false
is_left Published = false
is_left There = false
is_left Partly = false
is_left Withdrawn = false
is_left Unbuilt = false

abbrev pub left_in : RecipeNames → (archive gone : List Item) → List WantedRecipe
    → List WantedRecipe
left_in names archive gone recipes =
    filter (λ r. is_left (fate_in names archive gone r)) recipes
