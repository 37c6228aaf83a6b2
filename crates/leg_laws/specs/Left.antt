-- Which recipes are left of a farm once a run has stopped. The project's own rules. Parameters: u
-- and s the run's universe and the state that it came to; g the universe of the farm as it is
-- wanted now; w that of the farm that goes on.
--
--   Wishes                what is said of recipes, by name
--   has_published             the run has published the recipe
--   is_done, is_left      a recipe is done; it is to be built yet
--   IsRecipeLeft          how a recipe is carried over
--   IsLeft                the farm that goes on has the recipes that are left, and no others
use Rattle.std.specs.Prelude.{◌≡◌, ℕ, Bool, true, false, not, ◌&&◌, ◌||◌, List, [], ◌∷◌, filter, if◌then◌else◌}
use Rattle.std.specs.List.{list_any, list_all}
use Rattle.std.specs.Str.{bytes_eq}
use Rattle.farm_model.specs.declared.types.Variant.{Variant}
use Rattle.farm_model.specs.Common.{Recipe, Universe}
use Rattle.plan_model.specs.Common.{State}
use Rattle.leg_laws.specs.Named.{Item, item_of, is_same, is_published}
use Rattle.leg_laws.specs.Continuation.{stays}

-- recipes that are given up, that are to be built anew, that earlier runs have published, and whose
-- build has ended without a publish
pub record Wishes : Type 0 where
  pub without : List (List ℕ)
  pub again : List (List ℕ)
  pub done : List (List ℕ)
  pub built : List (List ℕ)

-- the name is among these
abbrev pub has_name : List (List ℕ) → List ℕ → Bool
has_name names name = list_any (λ n. bytes_eq n name) names

-- the run has published all that its recipe of this name gives
abbrev pub has_published : Universe → State → List ℕ → Bool
has_published u s name =
    list_any (λ r. bytes_eq r.name name && list_all (is_published s) r.outputs) u.recipes

-- its name was published, or all that it gives is there; and nobody wants it anew
abbrev pub is_done : Universe → State → (brought gone : List Item) → Wishes → Universe → Recipe → Bool
is_done u s brought gone wishes g r =
    not (has_name wishes.again r.name)
    && (has_name wishes.done r.name
    || (has_published u s r.name || list_all (λ v. stays u s brought gone (item_of g v)) r.outputs))

-- it is neither given up nor done
abbrev pub is_left : Universe → State → (brought gone : List Item) → Wishes → Universe → Recipe → Bool
is_left u s brought gone wishes g r =
    not (has_name wishes.without r.name) && not (is_done u s brought gone wishes g r)

-- a build that has ended, and is not wanted anew
abbrev pub is_built : Wishes → Recipe → Bool
is_built wishes r = has_name wishes.built r.name && not (has_name wishes.again r.name)

-- the same variants, one for one
abbrev pub are_same : Universe → List Variant → Universe → List Variant → Bool
are_same g [] w [] = true
are_same g (v ∷ vs) w (x ∷ xs) = is_same g v w x && are_same g vs w xs
are_same g _ w _ = false

-- A recipe of the wanted farm, and the one that it is in the farm that goes on:
pub record IsRecipeLeft (wishes : Wishes) (g : Universe) (r : Recipe) (w : Universe) (q : Recipe)
    : Type 0 where
  -- its name and what it gives are the same;
  pub name : q.name ≡ r.name
  pub outputs : are_same g r.outputs w q.outputs ≡ true
  -- it costs and wants what it did, or nothing more where its build has ended.
  pub steps : q.steps ≡ (if is_built wishes r then 0 else r.steps)
  pub scratch : q.scratch ≡ (if is_built wishes r then 0 else r.scratch)
  pub needs : q.needs ≡ (if is_built wishes r then [] else r.needs)
  pub clashes : q.clashes ≡ (if is_built wishes r then [] else r.clashes)

-- the recipes, one for one
abbrev pub AreRecipesLeft : Wishes → Universe → List Recipe → Universe → List Recipe → Type 0
AreRecipesLeft wishes g [] w [] = Unit {0}
AreRecipesLeft wishes g (r ∷ rs) w (q ∷ qs) =
    IsRecipeLeft wishes g r w q × AreRecipesLeft wishes g rs w qs
AreRecipesLeft wishes g _ w _ = ⊥

-- those that are left, in the order of the wanted farm
abbrev pub IsLeft : Universe → State → (brought gone : List Item) → Wishes → Universe → Universe
    → Type 0
IsLeft u s brought gone wishes g w =
    AreRecipesLeft wishes g (filter (is_left u s brought gone wishes g) g.recipes) w w.recipes
