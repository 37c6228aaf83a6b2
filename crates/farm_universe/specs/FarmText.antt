-- The farm text: its first paragraph describes the archive, each later one a recipe or a base
-- chroot (the project's own format).
--
--   head_at table p                what the first paragraph says, or its first fault
--   later_at land yard p           what the later paragraphs say with this one
--   land_at table sources ps       what they are read against
--   farm_of table sources ps       what the paragraphs say, or the first fault
use Rattle.std.specs.Prelude.{ℕ, List, [], ◌∷◌, ◌++◌, drop, length, Option, Some, None, Result, Ok, Err, codes}
use Rattle.deb_text.specs.Common.{fault_at, ◌>>=◌, steps}
use Rattle.deb_text.specs.declared.fault.Fault.{Fault}
use Rattle.deb_text.specs.declared.files.TheConstants.{FARM}
use Rattle.deb_stanza.specs.Stanza.{Paragraph, value_of}
use Rattle.deb_profile.specs.WordList.{words_at}
use Rattle.farm_model.specs.Universe.{Recipe, Base, Universe}
use Rattle.farm_universe.specs.declared.error.TheConstants.{ABSENT}
use Rattle.farm_universe.specs.BaseText.{base_at}
use Rattle.farm_universe.specs.Fields.{needed_at}
use Rattle.farm_universe.specs.Land.{Land, reduced_table}
use Rattle.farm_universe.specs.ListText.{list_at, variant_words}
use Rattle.farm_universe.specs.PackagesText.{PackageTable}
use Rattle.farm_universe.specs.RecipeText.{recipe_at}
use Rattle.farm_universe.specs.SourcesText.{SourceTable}
use Rattle.farm_universe.specs.Told.{told}

-- ---- the first paragraph

-- the names of the architecture, and a word of the initial archive for each name of a package
pub record Head : Type 0 where
  pub architectures : List (List ℕ)
  pub initial : List ℕ

-- the initial archive; absent: an empty one
abbrev pub archive_at : PackageTable → Option (List ℕ) → Result (List ℕ) ℕ
archive_at table None = Ok (variant_words (length table.names) [])
archive_at table (Some text) =
    list_at table text >>= λ vs. Ok (variant_words (length table.names) vs)

-- the fields in the order in which they are looked at
unfoldable pub head_at : PackageTable → Paragraph → Result Head ℕ
head_at table p = do
  spelled ← needed_at p (codes "Architecture-Names")
  architectures ← words_at spelled
  initial ← archive_at table (value_of p (codes "Archive"))
  Ok (record { architectures = architectures; initial = initial })

-- what the later paragraphs are read against: the packages with their relations reduced
abbrev pub land_of : PackageTable → SourceTable → Head → Land
land_of table sources head = record {
  table = reduced_table head.architectures table;
  sources = sources;
  architectures = head.architectures;
  initial = head.initial;
}

-- ---- the later paragraphs

-- what they say so far
pub record Yard : Type 0 where
  pub recipes : List Recipe
  pub bases : List Base

-- the recipes with one more, and the base chroots with one more
unfoldable pub recipes_with : Land → List Recipe → Paragraph → List ℕ → Result (List Recipe) ℕ
recipes_with land before p given = recipe_at land before p given >>= λ r. Ok (before ++ r ∷ [])

unfoldable pub bases_with : PackageTable → List Base → Paragraph → Result (List Base) ℕ
bases_with table before p = base_at table before p >>= λ base. Ok (before ++ base ∷ [])

-- a paragraph with the field Recipe is a recipe, each other a base chroot
abbrev pub later_by : Land → Yard → Paragraph → Option (List ℕ) → Result Yard ℕ
later_by land yard p (Some given) =
    recipes_with land yard.recipes p given
    >>= λ recipes. Ok (record { recipes = recipes; bases = yard.bases })
later_by land yard p None =
    bases_with land.table yard.bases p
    >>= λ bases. Ok (record { recipes = yard.recipes; bases = bases })

unfoldable pub later_at : Land → Yard → Paragraph → Result Yard ℕ
later_at land yard p = later_by land yard p (value_of p (codes "Recipe"))

abbrev pub tell_later : Land → Yard → Paragraph → Result Yard Fault
tell_later land yard p = told FARM p (later_at land yard p)

-- one after the other, each behind those before it
abbrev pub yard_of : Land → List Paragraph → Result Yard Fault
yard_of land ps = steps (tell_later land) (record { recipes = []; bases = [] }) ps

-- ---- the whole text

-- the universe that land and yard make
abbrev pub universe_with : Land → Yard → Universe
universe_with land yard = record {
  names = land.table.names;
  packages = land.table.packages;
  recipes = yard.recipes;
  bases = yard.bases;
  initial = land.initial;
  architectures = land.architectures;
}

-- what the first paragraph says behind packages and sources; a text without one is refused at
-- line 0
unfoldable pub land_at : PackageTable → SourceTable → List Paragraph → Result Land Fault
land_at table sources [] = Err (fault_at FARM 0 ABSENT)
land_at table sources (p ∷ ps) =
    told FARM p (head_at table p) >>= λ head. Ok (land_of table sources head)

unfoldable pub farm_of : PackageTable → SourceTable → List Paragraph → Result Universe Fault
farm_of table sources ps = do
  land ← land_at table sources ps
  yard ← yard_of land (drop 1 ps)
  Ok (universe_with land yard)
