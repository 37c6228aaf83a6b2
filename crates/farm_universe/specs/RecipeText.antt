-- A recipe of the farm text: how a source is built, and what the build gives (the project's own
-- format; Debian Policy 7.7 for what a build needs).
--
--   source_in sources text      the source that a value `name (= version)` names
--   mode_at, active_profiles_at  the mode of a build; its active profiles
--   recipe_by read land before p    what a paragraph says, after the recipes before it, what is
--                                   built by this reader
--   recipe_at land before p     what a paragraph says, after the recipes before it
use Rattle.std.specs.Prelude.{ℕ, ◌+◌, Bool, ◌||◌, nat_lt, nat_le, List, [], ◌∷◌, ◌++◌, map, sum, length, Option, Some, None, Result, Ok, Err, ok_or, if◌then◌else◌, codes}
use Rattle.std.specs.List.{list_any}
use Rattle.std.specs.Option.{option_and_then}
use Rattle.std.specs.Str.{bytes_eq}
use Rattle.deb_text.specs.Steps.{◌>>=◌}
use Rattle.deb_stanza.specs.Stanza.{Paragraph, value_of}
use Rattle.deb_profile.specs.Reduction.{reduced}
use Rattle.deb_profile.specs.WordList.{words_at}
use Rattle.deb_relation.specs.Common.{relations_at, Relations}
use Rattle.deb_relation.specs.declared.kind.Kind.TheVariants.{Provide}
use Rattle.farm_model.specs.Common.{contains, has_bit, Recipe}
use Rattle.farm_model.specs.declared.types.Mode.{Mode}
use Rattle.farm_model.specs.declared.types.Variant.{Variant}
use Rattle.farm_model.specs.declared.types.Mode.TheVariants.{Full, Arch, Indep}
use Rattle.farm_universe.specs.declared.build.Build.{Build}
use Rattle.farm_universe.specs.declared.error.TheConstants.{BAD_VALUE, TWICE, UNKNOWN_SOURCE, TAKEN, NO_OUTPUT, OVER_LIMIT}
use Rattle.farm_universe.specs.declared.limits.TheConstants.{MOST_RECIPES, MOST_ENTRIES, MOST_SIZE}
use Rattle.farm_universe.specs.declared.sources.BuildFields.{BuildFields}
use Rattle.farm_universe.specs.declared.sources.Source.{Source}
use Rattle.farm_universe.specs.Fields.{needed_at, package_name_at, number_up_to, size_at, refused_if}
use Rattle.farm_universe.specs.Land.{Land}
use Rattle.farm_universe.specs.ListText.{pinned, variants_in}
use Rattle.farm_universe.specs.PackagesText.{PackageTable}
use Rattle.farm_universe.specs.SourcesText.{SourceTable, find_source}

-- ---- what is built, and how

-- the value has one item, which names a source with its version
abbrev pub one_source : SourceTable → Relations → Option Source
one_source sources [] = None
one_source sources (entry ∷ []) =
    option_and_then (λ item. find_source sources item.0 item.1) (pinned entry)
one_source sources (entry ∷ next ∷ more) = None

unfoldable pub source_in : SourceTable → List ℕ → Result Source ℕ
source_in sources text =
    relations_at Provide text >>= λ entries. ok_or (one_source sources entries) UNKNOWN_SOURCE

-- a mode, by its name; none: the recipe is built already
abbrev pub mode_of : List ℕ → Result (Option Mode) ℕ
mode_of text =
    if bytes_eq text (codes "full") then Ok (Some Full)
    else if bytes_eq text (codes "arch") then Ok (Some Arch)
    else if bytes_eq text (codes "indep") then Ok (Some Indep)
    else if bytes_eq text (codes "built") then Ok None
    else Err BAD_VALUE

-- absent: everything is built
abbrev pub mode_at : Option (List ℕ) → Result (Option Mode) ℕ
mode_at None = Ok (Some Full)
mode_at (Some text) = mode_of text

-- the active profiles (BuildProfileSpec); absent: none
abbrev pub active_profiles_at : Option (List ℕ) → Result (List (List ℕ)) ℕ
active_profiles_at None = Ok []
active_profiles_at (Some text) = words_at text

-- the fields of the mode, each reduced by the names of the architecture and by the profiles
-- (Policy 7.1, 7.7)
unfoldable pub in_mode : List (List ℕ) → List (List ℕ) → Mode → BuildFields → Relations
in_mode names profiles Full fields =
    reduced names profiles fields.always ++ reduced names profiles fields.arch
    ++ reduced names profiles fields.indep
in_mode names profiles Arch fields =
    reduced names profiles fields.always ++ reduced names profiles fields.arch
in_mode names profiles Indep fields =
    reduced names profiles fields.always ++ reduced names profiles fields.indep

-- what is built already has no relations
unfoldable pub left_in : List (List ℕ) → List (List ℕ) → Option Mode → BuildFields → Relations
left_in names profiles None fields = []
left_in names profiles (Some mode) fields = in_mode names profiles mode fields

-- what is built, and how
unfoldable pub build_at : Land → Paragraph → Result Build ℕ
build_at land p = do
  named ← needed_at p (codes "Source")
  source ← source_in land.sources named
  mode ← mode_at (value_of p (codes "Mode"))
  profiles ← active_profiles_at (value_of p (codes "Profiles"))
  Ok (record {
    needs = left_in land.architectures profiles mode source.needs;
    clashes = left_in land.architectures profiles mode source.clashes;
  })

-- ---- what it gives

-- a list of variants with an item
abbrev pub recipe_outputs_in : PackageTable → Relations → Result (List Variant) ℕ
recipe_outputs_in table [] = Err NO_OUTPUT
recipe_outputs_in table (entry ∷ entries) = variants_in table (entry ∷ entries)

unfoldable pub outputs_at : PackageTable → Option (List ℕ) → Result (List Variant) ℕ
outputs_at table None = Err NO_OUTPUT
outputs_at table (Some text) = relations_at Provide text >>= recipe_outputs_in table

-- the variant is in the initial archive, or a recipe gives it
abbrev pub is_taken : List ℕ → List Recipe → Variant → Bool
is_taken initial before v = has_bit initial v || list_any (λ r. contains r.outputs v) before

-- ---- the whole paragraph

-- the entries of what it needs and excludes
abbrev pub build_entries : Recipe → ℕ
build_entries r = length r.needs + length r.clashes

-- more recipes, or more entries of all of them, than the limits allow: this many recipes and
-- entries stand before this build
abbrev pub is_build_over : ℕ → ℕ → Build → Bool
is_build_over count entries build =
    nat_le MOST_RECIPES count
    || nat_lt MOST_ENTRIES (entries + (length build.needs + length build.clashes))

-- a name that no recipe before has
abbrev pub recipe_name : List Recipe → List ℕ → Result (List ℕ) ℕ
recipe_name before given = do
  name ← package_name_at given
  free ← refused_if (list_any (λ r. bytes_eq name r.name) before) TWICE
  Ok name

-- the outputs, which neither the initial archive has nor a recipe before gives
abbrev pub new_outputs : Land → List Recipe → Paragraph → Result (List Variant) ℕ
new_outputs land before p = do
  outputs ← outputs_at land.table (value_of p (codes "Outputs"))
  free ← refused_if (list_any (is_taken land.initial before) outputs) TAKEN
  Ok outputs

-- the fields in the order in which they are looked at, what is built by this reader of it; Scratch
-- as Installed-Size is
unfoldable pub recipe_by : (Land → Paragraph → Result Build ℕ) → Land → List Recipe → Paragraph
    → List ℕ → Result Recipe ℕ
recipe_by read land before p given = do
  name ← recipe_name before given
  build ← read land p
  spent ← needed_at p (codes "Steps")
  steps ← number_up_to MOST_SIZE spent
  scratch ← size_at (value_of p (codes "Scratch"))
  outputs ← new_outputs land before p
  free ← refused_if (is_build_over (length before) (sum (map build_entries before)) build)
      OVER_LIMIT
  Ok (record {
    name = name;
    steps = steps;
    scratch = scratch;
    needs = build.needs;
    clashes = build.clashes;
    outputs = outputs;
  })

abbrev pub recipe_at : Land → List Recipe → Paragraph → List ℕ → Result Recipe ℕ
recipe_at land before p given = recipe_by build_at land before p given
