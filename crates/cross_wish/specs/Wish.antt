-- What a wish for two architectures says.
--
--   is_cross ps               the first paragraph has Build-Architecture
--   cross_head_at p           what the first paragraph says
--   cross_recipe_at h others p, cross_chroot_at h others p
--                             what a paragraph says, behind recipes or chroots of these names
--   cross_wish_at ps          what the paragraphs say, or their first fault, told at a line
use Rattle.std.specs.Prelude.{ℕ, Bool, true, false, not, ◌&&◌, ◌||◌, List, [], ◌∷◌, ◌++◌, codes, Option, Some, None, is_some, Result, Ok, Err, ok_or, if◌then◌else◌, drop}
use Rattle.std.specs.List.{list_any}
use Rattle.std.specs.Str.{bytes_eq}
use Rattle.deb_text.specs.Common.{◌>>=◌, fault_at, is_nil, placed, steps, words}
use Rattle.deb_text.specs.declared.fault.Fault.{Fault}
use Rattle.deb_relation.specs.Common.{Relations, relations_at}
use Rattle.deb_relation.specs.declared.kind.Kind.TheVariants.{Need}
use Rattle.deb_stanza.specs.Stanza.{Paragraph, paragraph_at, value_of}
use Rattle.deb_fields.specs.Fields.{or_text, refused_if}
use Rattle.deb_fields.specs.declared.error.TheConstants.{ABSENT, BAD_VALUE}
use Rattle.farm_model.specs.declared.types.Mode.{Mode}
use Rattle.farm_model.specs.declared.types.Mode.TheVariants.{Arch}
use Rattle.import_wish.specs.Chroot.{Chroot, chroot_at}
use Rattle.import_wish.specs.Head.{Head, head_at}
use Rattle.import_wish.specs.Recipe.{Recipe, recipe_at}
use Rattle.cross_laws.specs.declared.types.Side.{Side}
use Rattle.cross_laws.specs.declared.types.Side.TheVariants.{Build, Host}
use Rattle.cross_laws.specs.Binary.{Sides}
use Rattle.cross_laws.specs.Names.{is_taken}
use Rattle.cross_relations.specs.Sides.{are_sides}
use Rattle.cross_index.specs.Reading.{has_taken}
use Rattle.cross_index.specs.declared.error.TheConstants.{TAKEN_NAME}

abbrev pub is_cross : List Paragraph → Bool
is_cross [] = false
is_cross (p ∷ ps) = is_some (value_of p (codes "Build-Architecture"))

-- ---- entries, which somebody on the architecture on which is built asks for

abbrev pub free_at : Sides → Relations → Result (Unit {0}) ℕ
free_at s entries = refused_if (has_taken s entries) TAKEN_NAME

abbrev pub seen_at : Sides → List ℕ → Result Relations ℕ
seen_at s text = relations_at Need text >>= λ entries. free_at s entries >>= λ _. Ok entries

-- ---- the first paragraph

-- what native imports read of it, with the default of Profiles; the two architectures; and what each
-- build for the host needs besides
pub record CrossHead : Type 0 where
  pub native : Head
  pub sides : Sides
  pub essential : Relations

abbrev pub first_word : List (List ℕ) → Option (List ℕ)
first_word [] = None
first_word (word ∷ more) = Some word

abbrev pub only_word : List (List ℕ) → Option (List ℕ)
only_word [] = None
only_word (word ∷ []) = Some word
only_word (word ∷ other ∷ more) = None

abbrev pub sides_of : List ℕ → List ℕ → Result Sides ℕ
sides_of build host =
    if are_sides build host then Ok (record { build = build; host = host }) else Err BAD_VALUE

-- the host has the first of Architecture-Names
unfoldable pub sides_at : Paragraph → Result Sides ℕ
sides_at p = do
  host ← ok_or (first_word (words (or_text (value_of p (codes "Architecture-Names")) []))) ABSENT
  build ← ok_or (only_word (words (or_text (value_of p (codes "Build-Architecture")) []))) BAD_VALUE
  sides_of build host

abbrev pub archive_free : Sides → Option Relations → Result (Unit {0}) ℕ
archive_free s None = Ok tt
archive_free s (Some entries) = free_at s entries

abbrev pub essential_text : Sides → List ℕ
essential_text s = codes "build-essential, crossbuild-essential-" ++ s.host

abbrev pub essential_at : Sides → Option (List ℕ) → Result Relations ℕ
essential_at s None = seen_at s (essential_text s)
essential_at s (Some text) = seen_at s text

abbrev pub profiles_or : Option (List ℕ) → List ℕ → List ℕ
profiles_or None given = codes "cross nocheck"
profiles_or (Some text) given = given

abbrev pub with_profiles : Option (List ℕ) → Head → Head
with_profiles value head = record head { profiles = profiles_or value head.profiles }

unfoldable pub cross_head_at : Paragraph → Result CrossHead ℕ
cross_head_at p = do
  head ← head_at p
  sides ← sides_at p
  free ← archive_free sides head.archive
  essential ← essential_at sides (value_of p (codes "Build-Essential"))
  Ok (record {
    native = with_profiles (value_of p (codes "Profiles")) head;
    sides = sides;
    essential = essential;
  })

-- ---- recipes

-- as it is given, and for which side it is built, in which mode and under which profiles
pub record CrossRecipe : Type 0 where
  pub native : Recipe
  pub side : Side
  pub mode : Mode
  pub profiles : List (List ℕ)

abbrev pub side_at : Sides → Option (List ℕ) → Result Side ℕ
side_at s None = Ok Host
side_at s (Some text) =
    if bytes_eq text s.build then Ok Build
    else (if bytes_eq text s.host then Ok Host else Err BAD_VALUE)

-- a cross build gives nothing of `all`
abbrev pub mode_free : Side → Option (List ℕ) → Result (Unit {0}) ℕ
mode_free Build value = Ok tt
mode_free Host None = Ok tt
mode_free Host (Some text) = refused_if (not (bytes_eq text (codes "arch"))) BAD_VALUE

abbrev pub outputs_taken : Sides → Option (List (List ℕ)) → Bool
outputs_taken s None = false
outputs_taken s (Some names) = list_any (is_taken s) names

abbrev pub names_free : Sides → Recipe → Result (Unit {0}) ℕ
names_free s recipe =
    refused_if (is_taken s recipe.source.name || outputs_taken s recipe.outputs) TAKEN_NAME

abbrev pub mode_for : Side → Mode → Mode
mode_for Build mode = mode
mode_for Host mode = Arch

-- the profiles of the first paragraph are for builds for the host
abbrev pub profiles_for : Side → Option (List ℕ) → List (List ℕ) → List (List ℕ)
profiles_for Host own profiles = profiles
profiles_for Build None profiles = []
profiles_for Build (Some text) profiles = profiles

unfoldable pub cross_recipe_at : CrossHead → List (List ℕ) → Paragraph → Result CrossRecipe ℕ
cross_recipe_at head others p = do
  native ← recipe_at head.native others p
  side ← side_at head.sides (value_of p (codes "Host-Architecture"))
  mode ← mode_free side (value_of p (codes "Mode"))
  free ← names_free head.sides native
  Ok (record {
    native = native;
    side = side;
    mode = mode_for side native.way.mode;
    profiles = profiles_for side (value_of p (codes "Profiles")) native.way.profiles;
  })

-- ---- base chroots

pub record CrossChroot : Type 0 where
  pub native : Chroot
  pub is_said : Bool
  pub line : ℕ

abbrev pub packages_free : CrossHead → Bool → Relations → Result (Unit {0}) ℕ
packages_free head true packages = free_at head.sides packages
packages_free head false packages = Ok tt

-- absent: what each build for the host needs besides
abbrev pub packages_or : CrossHead → Bool → Relations → Relations
packages_or head true packages = packages
packages_or head false packages = head.essential

unfoldable pub cross_chroot_at : CrossHead → List (List ℕ) → Paragraph → Result CrossChroot ℕ
cross_chroot_at head others p = do
  native ← chroot_at others p
  free ← packages_free head (is_some (value_of p (codes "Packages"))) native.packages
  Ok (record {
    native = record native {
      packages = packages_or head (is_some (value_of p (codes "Packages"))) native.packages;
    };
    is_said = is_some (value_of p (codes "Packages"));
    line = p.line;
  })

-- ---- the wish

pub record CrossItems : Type 0 where
  pub recipes : List CrossRecipe
  pub recipe_names : List (List ℕ)
  pub chroots : List CrossChroot
  pub chroot_names : List (List ℕ)

pub record CrossWish : Type 0 where
  pub head : CrossHead
  pub items : CrossItems

abbrev pub no_items : CrossItems
no_items = record { recipes = []; recipe_names = []; chroots = []; chroot_names = [] }

abbrev pub more_recipes : CrossItems → CrossRecipe → CrossItems
more_recipes s recipe = record s {
  recipes = s.recipes ++ recipe ∷ [];
  recipe_names = s.recipe_names ++ recipe.native.name ∷ [];
}

abbrev pub more_chroots : CrossItems → CrossChroot → CrossItems
more_chroots s chroot = record s {
  chroots = s.chroots ++ chroot ∷ [];
  chroot_names = s.chroot_names ++ chroot.native.name ∷ [];
}

unfoldable pub with_recipe : CrossHead → CrossItems → Paragraph → Result CrossItems ℕ
with_recipe head s p =
    cross_recipe_at head s.recipe_names p >>= λ recipe. Ok (more_recipes s recipe)

unfoldable pub with_chroot : CrossHead → CrossItems → Paragraph → Result CrossItems ℕ
with_chroot head s p =
    cross_chroot_at head s.chroot_names p >>= λ chroot. Ok (more_chroots s chroot)

-- a recipe has a field Recipe
abbrev pub with_item : CrossHead → CrossItems → Paragraph → Result CrossItems ℕ
with_item head s p =
    if is_some (value_of p (codes "Recipe")) then with_recipe head s p else with_chroot head s p

abbrev pub step_at : CrossHead → CrossItems → Paragraph → Result CrossItems Fault
step_at head s p = placed 0 p.line (with_item head s p)

abbrev pub first_at : Paragraph → Result CrossHead Fault
first_at p = placed 0 p.line (cross_head_at p)

abbrev pub items_from : CrossHead → List Paragraph → Result CrossItems Fault
items_from head ps = steps (step_at head) no_items (drop 1 ps)

unfoldable pub cross_wish_at : List Paragraph → Result CrossWish Fault
cross_wish_at ps =
    if is_nil ps then Err (fault_at 0 0 ABSENT)
    else (do
      head ← first_at (paragraph_at ps 0)
      items ← items_from head ps
      Ok (record { head = head; items = items }))
