-- What a farm has that goes on where a run has stopped. The project's own rules. Parameters: w the
-- universe of the farm.
--
--   AreItems        variants of the farm are these items, one for one
--   costs_nothing   a build takes no steps and no space, and neither needs nor excludes anything
--   IsKept          a recipe of the farm is one that is left
--   AreKept         the recipes of the farm are those that are left, in their order
--   IsNext          the same, one by one
--   IsRest          the farm goes on where the run has stopped, with the recipes that are left
--   IsOfFarm        what comes of a farm that was read: that it is such a one, or another
--   IsJudged        what comes of texts that were made: they are read as such a farm, or refused
use Rattle.std.specs.Prelude.{◌≡◌, ℕ, ◌+◌, Bool, true, false, ◌&&◌, ◌==◌, List, length, Some, slice_get, Ok, Err}
use Rattle.farm_model.specs.declared.types.Variant.{Variant}
use Rattle.farm_model.specs.Common.{Recipe, Universe, recipe}
use Rattle.farm_universe.specs.UniverseText.{universe_of}
use Rattle.leg_laws.specs.Continuation.{stays, IsContinuation}
use Rattle.leg_laws.specs.Named.{Item, is_equal_item, is_listed, item_of}
use Rattle.rest_farm.specs.declared.fate.WantedRecipe.{WantedRecipe}
use Rattle.rest_farm.specs.declared.judgement.Claims.{Claims}
use Rattle.rest_farm.specs.declared.judgement.Judged.{Judged}
use Rattle.rest_farm.specs.declared.judgement.Judged.TheVariants.{Right, Refused, Wrong}
use Rattle.rest_farm.specs.declared.judgement.RestTexts.{RestTexts}
use Rattle.rest_farm.specs.Fates.{fate_in, is_built, is_left, left_in}

pub record AreItems (w : Universe) (items : List Item) (vs : List Variant) : Type 0 where
  pub count : length items ≡ length vs
  pub each : (k : ℕ) (i : Item) (x : Variant) → slice_get items k ≡ Some i
      → slice_get vs k ≡ Some x → is_equal_item i (item_of w x) ≡ true

abbrev pub costs_nothing : Recipe → Bool
costs_nothing r =
    (r.steps == 0) && (r.scratch == 0) && (length r.needs == 0) && (length r.clashes == 0)

-- its name and what it gives are the same; and it costs nothing where it is built by now
pub record IsKept (w : Universe) (made : Bool) (of : WantedRecipe) (r : Recipe) : Type 0 where
  pub name : r.name ≡ of.name
  pub outputs : AreItems w of.outputs.items r.outputs
  pub built : made ≡ true → costs_nothing r ≡ true

-- archive is what there is, by which it is known what becomes of a recipe
pub record AreKept (of : Claims) (archive : List Item) (w : Universe) : Type 0 where
  pub count : length w.recipes ≡ length (left_in of.names archive of.gone.now of.recipes.now)
  pub each : (k : ℕ) (r : WantedRecipe)
      → slice_get (left_in of.names archive of.gone.now of.recipes.now) k ≡ Some r
      → IsKept w (is_built (fate_in of.names archive of.gone.now r)) r (recipe w k)

-- so many recipes of the farm stand for those that are wanted up to one, given how many stand for
-- those ahead of it
pub record IsNext (of : Claims) (archive : List Item) (w : Universe) (r : WantedRecipe)
    (number next : ℕ) : Type 0 where
  pub left : is_left (fate_in of.names archive of.gone.now r) ≡ true
      → (next ≡ number + 1) × IsKept w (is_built (fate_in of.names archive of.gone.now r)) r
      (recipe w number)
  pub other : is_left (fate_in of.names archive of.gone.now r) ≡ false → next ≡ number

pub record IsRest (of : Claims) (w : Universe) : Type 0 where
  pub continues : IsContinuation of.run.now.universe of.run.now.state of.brought.now of.gone.now w
  -- what becomes of a recipe is known by exactly what stays in the archive
  pub archive : List Item
  pub archive_stays : (item : Item) → is_listed archive item
      ≡ stays of.run.now.universe of.run.now.state of.brought.now of.gone.now item
  pub left : AreKept of archive w

abbrev pub IsOfFarm : Claims → Universe → Judged → Type 0
IsOfFarm of w Right = IsRest of w
IsOfFarm of w (Refused fault) = ⊥
IsOfFarm of w Wrong = Unit {0}

-- a refusal is of the first fault of the texts
abbrev pub IsJudged : Claims → RestTexts → Judged → Type 0
IsJudged of texts Right = (w : Universe)
    × (universe_of texts.packages.items texts.sources.items texts.farm.items ≡ Ok w)
    × IsRest of w
IsJudged of texts (Refused fault) =
    universe_of texts.packages.items texts.sources.items texts.farm.items ≡ Err fault
IsJudged of texts Wrong = Unit {0}
