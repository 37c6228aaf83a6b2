-- What is true of what the farm text says.
use Rattle.std.specs.Prelude.{◌≡◌, ℕ, ◌+◌, ◌<◌, ◌≤◌, List, [], IfOk, IfSome, Result, length, map, sum, All, true, false, Some, codes, get_or, slice_get}
use Rattle.std.specs.Global.{Vec}
use Rattle.std.specs.List.{list_any}
use Rattle.deb_stanza.specs.Stanza.{Paragraph, value_of}
use Rattle.deb_text.specs.Answers.{Gives}
use Rattle.farm_universe.specs.declared.limits.TheConstants.{MOST_BASES, MOST_CAPACITY, MOST_RECIPES, MOST_ENTRIES, MOST_SIZE}
use Rattle.farm_model.specs.Common.{has_bit, no_recipe, Recipe, Base, Universe}
use Rattle.farm_model.specs.declared.types.Variant.{Variant}
use Rattle.farm_universe.specs.declared.error.FieldFault.{FieldFault}
use Rattle.farm_universe.specs.declared.land.Head.{Head}
use Rattle.farm_universe.specs.declared.land.Land.{Land}
use Rattle.farm_universe.specs.declared.list.VariantList.{VariantList}
use Rattle.farm_universe.specs.declared.bases.BaseHeld.{BaseHeld}
use Rattle.farm_universe.specs.declared.later_parts.LaterParts.{LaterParts}
use Rattle.farm_universe.specs.declared.recipe_parts.RecipeParts.{RecipeParts}
use Rattle.farm_universe.specs.declared.recipes.RecipeList.{RecipeList}
use Rattle.farm_universe.specs.declared.farm.Farm.{Farm}
use Rattle.farm_universe.specs.declared.farm.Yard.{Yard}
use Rattle.item_index.specs.Items.{item, IsListed}
use Rattle.item_index.specs.declared.item.Item.{Item}
use Rattle.farm_universe.specs.BaseText.{held_at, is_settled_base}
use Rattle.farm_universe.specs.FarmText as text
use Rattle.farm_universe.specs.Land as land
use Rattle.farm_universe.specs.ListText.{variant_words}
use Rattle.farm_universe.specs.PackagesText.{PackageTable}
use Rattle.farm_universe.specs.RecipeSteps.{first_build_at}
use Rattle.farm_universe.specs.RecipeText.{is_taken, build_entries, outputs_at}
use Rattle.farm_universe.specs.SourceView.{source_view, IsSourceTable}
use Rattle.farm_universe.specs.TableView.{table_view, IsFit}
use Rattle.farm_universe.specs.View.{refusal_of}

-- ---- what the values of the code say

abbrev pub head_view : Head → text.Head
head_view head = record { architectures = head.architectures; initial = head.initial.items }

abbrev pub land_view : Land → land.Land
land_view l = record {
  table = table_view l.table;
  sources = source_view l.sources;
  architectures = l.architectures;
  initial = l.initial.items;
}

abbrev pub yard_view : Yard → text.Yard
yard_view yard = record { recipes = yard.recipes.recipes.items; bases = yard.bases.items }

abbrev pub farm_view : Farm → Universe
farm_view farm = text.universe_with (land_view farm.land) (yard_view farm.yard)

-- ---- variants of a table

-- a variant of the table
abbrev pub IsTableVariant : PackageTable → Variant → Type 0
IsTableVariant table v = v.bit < length (get_or table.packages v.name [])

-- a name of the table, and a bit of a word
pub record IsPlace (table : PackageTable) (v : Variant) : Type 0 where
  pub name : v.name < length table.names
  pub bit : v.bit < 64
  pub listed : IsTableVariant table v

-- a word for each name of the table, with bits of its variants alone
pub record AreTableWords (table : PackageTable) (words : List ℕ) : Type 0 where
  pub paired : length words ≡ length table.names
  pub known : (v : Variant) → has_bit words v ≡ true → IsTableVariant table v

-- no variant stands twice
abbrev pub IsOnce : List Variant → Type 0
IsOnce vs = (i j : ℕ) (v : Variant) → slice_get vs i ≡ Some v → slice_get vs j ≡ Some v → i ≡ j

-- different variants of the table
pub record AreDifferent (table : PackageTable) (vs : List Variant) : Type 0 where
  pub known : All (IsPlace table) vs
  pub once : IsOnce vs

-- different variants of the table, and the words that have their bits
pub record AreListed (table : PackageTable) (list : VariantList) : Type 0 where
  pub words : list.words.items ≡ variant_words (length table.names) list.variants.items
  pub known : All (IsPlace table) list.variants.items
  pub once : IsOnce list.variants.items

-- different variants of the table, and not none
pub record AreOutputs (table : PackageTable) (vs : List Variant) : Type 0 where
  pub there : 0 < length vs
  pub known : All (IsPlace table) vs
  pub once : IsOnce vs

-- ---- what the later paragraphs are read against

pub record IsLand (l : land.Land) : Type 0 where
  pub fit : IsFit l.table
  pub sources : IsSourceTable l.sources
  pub words : AreTableWords l.table l.initial

-- ---- recipes

-- what was read of the outputs of a paragraph
pub record AreOutputsOf (l : land.Land) (p : Paragraph)
    (read : Result (Vec Variant) FieldFault) : Type 0 where
  pub said : Gives refusal_of (λ vs. vs.items) read
      (outputs_at l.table (value_of p (codes "Outputs")))
  pub outputs : IfOk read (λ vs. AreOutputs l.table vs.items)

-- what was read of a paragraph whatever recipes stand before it
pub record AreRecipeParts (l : land.Land) (p : Paragraph) (parts : RecipeParts) : Type 0 where
  pub build : Gives refusal_of (λ build. build) parts.build (first_build_at l p)
  pub outputs : AreOutputsOf l p parts.outputs

-- outputs that neither the initial archive has nor a recipe before gives
pub record AreNew (l : land.Land) (before : List Recipe) (vs : List Variant) : Type 0 where
  pub outputs : AreOutputs l.table vs
  pub free : list_any (is_taken l.initial before) vs ≡ false

-- a recipe that can stand behind those before it
pub record IsNew (l : land.Land) (before : List Recipe) (r : Recipe) : Type 0 where
  pub new : AreNew l before r.outputs
  pub few_steps : r.steps ≤ MOST_SIZE
  pub small : r.scratch ≤ MOST_SIZE
  pub few : length before < MOST_RECIPES
  pub room : sum (map build_entries before) + build_entries r ≤ MOST_ENTRIES

-- a recipe gives something: variants of the table that are not in the initial archive; what it
-- costs is within the limits
pub record IsRecipe (l : land.Land) (r : Recipe) : Type 0 where
  pub there : 0 < length r.outputs
  pub known : All (IsPlace l.table) r.outputs
  pub new : All (λ v. has_bit l.initial v ≡ false) r.outputs
  pub few_steps : r.steps ≤ MOST_SIZE
  pub small : r.scratch ≤ MOST_SIZE

-- the outputs of the recipe with this number
abbrev pub recipe_outputs : List Recipe → ℕ → List Variant
recipe_outputs rs r = (get_or rs r no_recipe).outputs

-- no variant is given twice
abbrev pub GivesOnce : List Recipe → Type 0
GivesOnce rs = (q r i j : ℕ) (v : Variant) → slice_get (recipe_outputs rs q) i ≡ Some v
    → slice_get (recipe_outputs rs r) j ≡ Some v → (q ≡ r) × (i ≡ j)

-- the words have the bits of the initial archive and of the outputs
pub record AreTaken (l : land.Land) (rs : List Recipe) (words : List ℕ) : Type 0 where
  pub paired : length words ≡ length l.table.names
  pub bits : (v : Variant) → v.name < length l.table.names
      → has_bit words v ≡ is_taken l.initial rs v

-- each recipe is listed under its name, by its number
abbrev pub AreNamed : List (List (Item ℕ)) → List Recipe → Type 0
AreNamed lists rs =
    (k : ℕ) (r : Recipe) → slice_get rs k ≡ Some r → IsListed lists r.name (item k 0 0)

-- what is true of the recipes so far
pub record AreRecipes (l : land.Land) (list : RecipeList) : Type 0 where
  pub few : length list.recipes.items ≤ MOST_RECIPES
  pub each : All (IsRecipe l) list.recipes.items
  pub once : GivesOnce list.recipes.items
  pub taken : AreTaken l list.recipes.items list.taken.items
  pub named : AreNamed list.by_name list.recipes.items
  pub entries : list.entries ≡ sum (map build_entries list.recipes.items)
  pub room : list.entries ≤ MOST_ENTRIES

-- ---- base chroots

pub record IsBase (table : PackageTable) (base : Base) : Type 0 where
  pub known : All (IsPlace table) base.packages
  pub settled : is_settled_base table base.capacity base.packages ≡ true
  pub small : base.capacity ≤ MOST_CAPACITY

-- what was read of what a base chroot holds
pub record IsHeldRead (table : PackageTable) (p : Paragraph) (read : Result BaseHeld FieldFault)
    : Type 0 where
  pub said : Gives refusal_of (λ held. (held.capacity, held.packages.items)) read (held_at table p)
  pub known : IfOk read (λ held. All (IsPlace table) held.packages.items)
  pub settled : IfOk read
      (λ held. is_settled_base table held.capacity held.packages.items ≡ true)
  pub small : IfOk read (λ held. held.capacity ≤ MOST_CAPACITY)

-- what was read of a later paragraph whatever stands before it
pub record AreLaterParts (l : land.Land) (p : Paragraph) (parts : LaterParts) : Type 0 where
  pub recipe : AreRecipeParts l p parts.recipe
  pub held : IfSome parts.held (IsHeldRead l.table p)

pub record AreBases (table : PackageTable) (bases : List Base) : Type 0 where
  pub few : length bases ≤ MOST_BASES
  pub each : All (IsBase table) bases

-- what is true of the later paragraphs so far
pub record IsYard (l : land.Land) (yard : Yard) : Type 0 where
  pub recipes : AreRecipes l yard.recipes
  pub bases : AreBases l.table yard.bases.items
