-- What an import comes to.
--
--   wish_in text                   what the text of a wish says, or its first fault
--   HasNames items universe        the universe has a recipe and a base chroot for each of a wish
--   archive_of wish universe       what the wish wants to be there at the beginning, as the
--                                  architecture of the universe leaves it
--   is_same a b                    two variants are the same
--   IsOutput universe variant      a recipe of the universe gives the variant
--   AreUnmet wish universe unmet   what nothing in the universe meets of what the wish wants to be
--                                  there, of what the recipes and the initial archive need, and of
--                                  what some outputs of recipes need
--   IsUniverseOf wish universe unmet
--                                  both of these
--   IsFarmOf wish texts unmet      the texts are read without a fault, as every command reads them,
--                                  and are of such a universe
--   AreTextsOf IsPackage IsSource wish texts unmet
--                                  the texts are made of such paragraphs, and the farm is the wish's
--   IsOfWish inputs paragraphs texts unmet
--                                  the same of the wish of these paragraphs, and of the indexes
--   IsOfWishText text inputs texts unmet
--                                  the same of the wish of this text
--   AreImported inputs answer      if there are texts, they are such of the wish's text, and the lines
--                                  have a note on each of what nothing meets
use Rattle.std.specs.Prelude.{◌≡◌, ◌==◌, ◌&&◌, ℕ, Bool, List, [], ◌∷◌, ◌++◌, All, map, codes, Ok, Result, if◌then◌else◌}
use Rattle.std.specs.List.{Contains}
use Rattle.std.specs.Option.{option_map_or}
use Rattle.deb_text.specs.Common.{is_nil, ◌>>=◌}
use Rattle.deb_text.specs.declared.fault.Fault.{Fault}
use Rattle.deb_profile.specs.Reduction.{reduced}
use Rattle.deb_relation.specs.Relations.{Relations}
use Rattle.deb_stanza.specs.Stanza.{Paragraph, paragraphs_at}
use Rattle.farm_model.specs.Common.{outputs, Universe}
use Rattle.farm_model.specs.declared.types.Variant.{Variant}
use Rattle.farm_universe.specs.UniverseText.{universe_of}
use Rattle.import_wish.specs.Wish.{Items, Wish, wish_at}
use Rattle.import_farm.specs.declared.imported.Imported.{Imported}
use Rattle.import_farm.specs.declared.imported.Imported.TheVariants.{Texts, Refused, Wrong}
use Rattle.import_farm.specs.declared.imported.ImportedTexts.{ImportedTexts}
use Rattle.import_farm.specs.declared.imported.Inputs.{Inputs}
use Rattle.import_farm.specs.declared.imported.TheConstants.{HEAD}
use Rattle.farm_lookup.specs.Unmet.{unmet_needs}
use Rattle.farm_lookup.specs.declared.needs.Unmet.{Unmet}
use Rattle.import_farm.specs.Made.{IsBlockIn, IsMadeOf, IsWhole, IsWholeOrAnew}
use Rattle.import_farm.specs.Notes.{HasNotes}

abbrev pub wish_in : List ℕ → Result Wish Fault
wish_in text = paragraphs_at text >>= wish_at

-- a wish that names no chroot has one of the name `buildd`
abbrev pub chroots_of : List (List ℕ) → List (List ℕ)
chroots_of names = if is_nil names then codes "buildd" ∷ [] else names

-- in the order of the wish
pub record HasNames (items : Items) (universe : Universe) : Type 0 where
  pub recipes : map (λ recipe. recipe.name) universe.recipes ≡ items.recipe_names
  pub chroots : map (λ base. base.name) universe.bases ≡ chroots_of items.chroot_names

abbrev pub archive_of : Wish → Universe → Relations
archive_of wish universe = option_map_or (reduced universe.architectures []) wish.head.archive []

abbrev pub is_same : Variant → Variant → Bool
is_same a b = a.name == b.name && a.bit == b.bit

abbrev pub IsOutput : Universe → Variant → Type 0
IsOutput universe variant = (number : ℕ) × Contains (outputs universe number) variant

abbrev pub AreUnmet : Wish → Universe → List Unmet → Type 0
AreUnmet wish universe unmet =
    (more : List Variant) × All (IsOutput universe) more
    × (unmet ≡ unmet_needs universe (archive_of wish universe) more)

pub record IsUniverseOf (wish : Wish) (universe : Universe) (unmet : List Unmet) : Type 0 where
  pub names : HasNames wish.items universe
  pub met : AreUnmet wish universe unmet

pub record IsFarmOf (wish : Wish) (texts : ImportedTexts) (unmet : List Unmet) : Type 0 where
  pub universe : Universe
  pub read :
      universe_of texts.packages.items texts.sources.items texts.farm.items ≡ Ok universe
  pub farm : IsUniverseOf wish universe unmet

pub record AreTextsOf (IsPackage IsSource : List ℕ → Type 0) (wish : Wish)
    (texts : ImportedTexts) (unmet : List Unmet) : Type 0 where
  pub farm : IsFarmOf wish texts unmet
  pub packages : IsMadeOf (IsWholeOrAnew IsPackage) HEAD.now texts.packages.items
  pub sources : IsMadeOf (IsWhole IsSource) HEAD.now texts.sources.items

abbrev pub IsOfWish : Inputs → List Paragraph → ImportedTexts → List Unmet → Type 0
IsOfWish inputs paragraphs texts unmet =
    (wish : Wish) × (wish_at paragraphs ≡ Ok wish)
    × AreTextsOf (IsBlockIn (inputs.packages.now ++ inputs.archive.now))
    (IsBlockIn inputs.sources.now) wish texts unmet

-- of this text of a wish, and of the indexes
abbrev pub IsOfWishText : List ℕ → Inputs → ImportedTexts → List Unmet → Type 0
IsOfWishText text inputs texts unmet =
    (wish : Wish) × (wish_in text ≡ Ok wish)
    × AreTextsOf (IsBlockIn (inputs.packages.now ++ inputs.archive.now))
    (IsBlockIn inputs.sources.now) wish texts unmet

abbrev pub IsOfText : Inputs → ImportedTexts → List Unmet → Type 0
IsOfText inputs texts unmet = IsOfWishText inputs.wish.now inputs texts unmet

abbrev pub AreImported : Inputs → Imported → Type 0
AreImported inputs (Texts texts unmet lines) =
    IsOfText inputs texts unmet.items × HasNotes unmet.items lines.items
AreImported inputs (Refused lines) = Unit {0}
AreImported inputs Wrong = Unit {0}
