-- The sources that recipes ask for, one by one.
use Rattle.std.proofs.Common.{◌≡◌, ℕ, ◌+◌, ◌<◌, List, [], ◌∷◌, ◌++◌, length, map, take, get_or, sym, ap, ◌∙◌}
use Rattle.std.proofs.lemmas.List.{map_push, take_more}
use Rattle.cross_laws.specs.declared.types.Side.{Side}
use Rattle.cross_sources.specs.declared.asked.WantedSource.{WantedSource}
use Rattle.cross_wish.specs.Views.{cross_recipe_view}
use Rattle.cross_wish.specs.declared.recipe.CrossRecipe.{CrossRecipe}
use Rattle.cross_import.specs.CrossImport.{asked_for, wanted_as}

pair : List ℕ → Side → List ℕ × Side
pair name side = (name, side)

same : (recipe : CrossRecipe) (one : WantedSource)
    → one.name.items ≡ recipe.native.source.name.items → one.side ≡ recipe.side
    → wanted_as one ≡ asked_for (cross_recipe_view recipe)
unfolding pair
same recipe one name side =
    ap (λ (n : List ℕ). pair n one.side) name
    ∙ ap (pair recipe.native.source.name.items) side

pub wanted-more : (all : List CrossRecipe) (i : ℕ) (recipe : CrossRecipe)
    (wanted : List WantedSource) (one : WantedSource) → i < length all
    → recipe ≡ get_or all i recipe → one.name.items ≡ recipe.native.source.name.items
    → one.side ≡ recipe.side
    → map wanted_as wanted ≡ map asked_for (map cross_recipe_view (take i all))
    → map wanted_as (wanted ++ one ∷ [])
    ≡ map asked_for (map cross_recipe_view (take (i + 1) all))
wanted-more all i recipe wanted one below at name side so_far =
    let front = take i all in
    let views = map cross_recipe_view front in
    let more : map cross_recipe_view (take (i + 1) all) ≡ views ++ cross_recipe_view recipe ∷ [] =
    ap (map cross_recipe_view) (take_more all i recipe below
    ∙ ap (λ (r : CrossRecipe). front ++ r ∷ []) (sym at))
    ∙ map_push cross_recipe_view front recipe in
    map_push wanted_as wanted one
    ∙ ap (λ (ps : List (List ℕ × Side)). ps ++ wanted_as one ∷ []) so_far
    ∙ ap (λ (p : List ℕ × Side). map asked_for views ++ p ∷ []) (same recipe one name side)
    ∙ sym (ap (map asked_for) more ∙ map_push asked_for views (cross_recipe_view recipe))
