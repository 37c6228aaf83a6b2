-- The paragraphs of a wish that are recipes.
--
--   source_at text             the source: `NAME`, or `NAME (= VERSION)`
--   way_at head p              mode, profiles, steps and scratch space
--   recipe_at head others p    what a paragraph says, behind recipes of these names
use Rattle.std.specs.Prelude.{ℕ, List, [], ◌∷◌, codes, Option, Some, None, Result, Ok, ok_or, is_none, if◌then◌else◌}
use Rattle.std.specs.Option.{option_map}
use Rattle.deb_text.specs.Common.{lists, ◌>>=◌, words}
use Rattle.deb_profile.specs.WordList.{words_at}
use Rattle.deb_relation.specs.Common.{relations_at, Entry, Relations}
use Rattle.deb_relation.specs.declared.kind.Kind.TheVariants.{Provide}
use Rattle.deb_stanza.specs.Stanza.{Paragraph, value_of}
use Rattle.farm_model.specs.declared.types.Mode.{Mode}
use Rattle.import_wish.specs.declared.error.TheConstants.{TWICE, UNKNOWN_SOURCE}
use Rattle.import_wish.specs.declared.recipe.TheConstants.{MOST_SIZE}
use Rattle.import_wish.specs.declared.recipe.Way as ways
use Rattle.import_wish.specs.declared.recipe.WishedRecipe as recipes
use Rattle.import_wish.specs.declared.recipe.WishedSource as sources
use Rattle.deb_fields.specs.Fields.{name_at, needed_at, number_in, or_text, refused_if}
use Rattle.import_wish.specs.Fields.{mode_at}
use Rattle.import_wish.specs.Head.{Head}
use Rattle.import_wish.specs.Lists.{drops_at, is_among, outputs_in}

-- ---- what is read

pub record Source : Type 0 where
  pub name : List ℕ
  pub version : Option (List ℕ)

pub record Way : Type 0 where
  pub mode : Mode
  pub profiles : List (List ℕ)
  pub steps : Option ℕ
  pub scratch : Option ℕ

pub record Recipe : Type 0 where
  pub line : ℕ
  pub name : List ℕ
  pub source : Source
  pub way : Way
  pub outputs : Option (List (List ℕ))
  pub drops : List (List ℕ)

abbrev pub source_view : sources.WishedSource → Source
source_view source = record {
  name = source.name.items;
  version = option_map (λ v. v.items) source.version;
}

abbrev pub way_view : ways.Way → Way
way_view way = record {
  mode = way.mode;
  profiles = words way.profiles.items;
  steps = way.steps;
  scratch = way.scratch;
}

abbrev pub recipe_view : recipes.WishedRecipe → Recipe
recipe_view recipe = record {
  line = recipe.line;
  name = recipe.name.items;
  source = source_view recipe.source;
  way = way_view recipe.way;
  outputs = option_map (λ names. lists names.items) recipe.outputs;
  drops = words recipe.drops.items;
}

-- ---- how it is read

abbrev pub source_of : Entry → Option Source
source_of [] = None
source_of (atom ∷ []) =
    if is_none atom.qualifier
    then Some record { name = atom.name; version = option_map (λ r. r.1) atom.relation } else None
source_of (atom ∷ more ∷ others) = None

abbrev pub one_source : Relations → Option Source
one_source [] = None
one_source (entry ∷ []) = source_of entry
one_source (entry ∷ more ∷ entries) = None

unfoldable pub source_at : List ℕ → Result Source ℕ
source_at text =
    relations_at Provide text >>= λ entries. ok_or (one_source entries) UNKNOWN_SOURCE

-- a name that is none of others
unfoldable pub new_name_at : List (List ℕ) → List ℕ → Result (List ℕ) ℕ
new_name_at others text = do
  name ← name_at text
  free ← refused_if (is_among others name) TWICE
  Ok name

unfoldable pub way_at : Head → Paragraph → Result Way ℕ
way_at head p = do
  mode ← mode_at head.mode (value_of p (codes "Mode"))
  profiles ← words_at (or_text (value_of p (codes "Profiles")) head.profiles)
  steps ← number_in MOST_SIZE (value_of p (codes "Steps"))
  scratch ← number_in MOST_SIZE (value_of p (codes "Scratch"))
  Ok (record { mode = mode; profiles = profiles; steps = steps; scratch = scratch })

unfoldable pub recipe_at : Head → List (List ℕ) → Paragraph → Result Recipe ℕ
recipe_at head others p = do
  given ← needed_at p (codes "Recipe")
  name ← new_name_at others given
  source ← source_at (or_text (value_of p (codes "Source")) name)
  way ← way_at head p
  outputs ← outputs_in (value_of p (codes "Outputs"))
  drops ← drops_at (or_text (value_of p (codes "Drops")) [])
  Ok (record {
    line = p.line;
    name = name;
    source = source;
    way = way;
    outputs = outputs;
    drops = drops;
  })
