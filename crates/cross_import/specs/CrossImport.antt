-- The texts of a farm of two architectures, as an import makes them of a wish and of indexes.
--
--   AreEach Is givens mades        each text is made so of the given one, in their order
--   cross_in text                  a wish is for two architectures
--   AreFinishedTexts s made texts  packages are finished, and the other texts are as they were made
--   AreClear s packages            they are of packages that the refusal 707 leaves
--   IsFarmOf names texts           they are read as a universe, as every command reads them
--   AreCrossImported inputs answer if there are texts, they are finished ones of a native import of
--                                  encoded inputs, and are read
use Rattle.std.specs.Prelude.{◌≡◌, ℕ, Bool, true, false, List, [], ◌∷◌, ◌++◌, map, drop, length, Result, Ok, Err, if◌then◌else◌}
use Rattle.std.specs.Global.{Vec}
use Rattle.deb_text.specs.Common.{is_nil, traverse}
use Rattle.deb_text.specs.declared.fault.Fault.{Fault}
use Rattle.deb_stanza.specs.Stanza.{Paragraph, paragraphs_at}
use Rattle.farm_model.specs.Common.{Universe}
use Rattle.farm_universe.specs.UniverseText.{universe_of}
use Rattle.farm_lookup.specs.declared.needs.Unmet.{Unmet}
use Rattle.import_farm.specs.Imported.{AreImported}
use Rattle.import_farm.specs.declared.imported.Imported.{Imported}
use Rattle.import_farm.specs.declared.imported.Imported.TheVariants.{Texts, Refused, Wrong}
use Rattle.import_farm.specs.declared.imported.ImportedTexts.{ImportedTexts}
use Rattle.import_farm.specs.declared.imported.Inputs.{Inputs}
use Rattle.import_farm.specs.declared.imported.NamedText.{NamedText}
use Rattle.import_farm.specs.declared.imported.TheConstants.{HEAD}
use Rattle.cross_laws.specs.declared.types.Side.{Side}
use Rattle.cross_laws.specs.Binary.{Binary, Sides}
use Rattle.cross_laws.specs.Encoding.{encoded_needs}
use Rattle.cross_index.specs.EncodedIndex.{IsEncodedIndex}
use Rattle.cross_index.specs.Finished.{IsFinished, given_at}
use Rattle.cross_clear.specs.Guard.{ArePackagesKept}
use Rattle.cross_index.specs.Seen.{by_build}
use Rattle.cross_sources.specs.EncodedSource.{AreEncodedSources}
use Rattle.cross_sources.specs.Relations.{Way}
use Rattle.cross_sources.specs.declared.asked.WantedSource.{WantedSource}
use Rattle.cross_wish.specs.Wish.{CrossRecipe, CrossWish, cross_wish_at, is_cross}

-- ---- what goes in

abbrev pub cross_of : Result (List Paragraph) Fault → Bool
cross_of (Ok paragraphs) = is_cross paragraphs
cross_of (Err fault) = false

-- one that cannot be read is none
abbrev pub cross_in : List ℕ → Bool
cross_in text = cross_of (paragraphs_at text)

abbrev pub AreEach : (List ℕ → List ℕ → Type 0) → List (List ℕ) → List (List ℕ) → Type 0
AreEach Is [] mades = mades ≡ []
AreEach Is (given ∷ givens) mades =
    (made : List ℕ) × (rest : List (List ℕ)) × (mades ≡ made ∷ rest) × Is given made
    × AreEach Is givens rest

abbrev pub texts_of : List NamedText → List (List ℕ)
texts_of texts = map (λ text. text.bytes.now) texts

-- what is there at the beginning is taken of the same indexes, where there are no others
abbrev pub archive_of : Inputs → List NamedText
archive_of inputs = if is_nil inputs.archive.now then inputs.packages.now else inputs.archive.now

-- the sources of the recipes are wanted, each for the side for which it is built
abbrev pub asked_for : CrossRecipe → List ℕ × Side
asked_for recipe = (recipe.native.source.name, recipe.side)

abbrev pub wanted_as : WantedSource → List ℕ × Side
wanted_as wanted = (wanted.name.items, wanted.side)

abbrev pub wanted_of : CrossWish → List (List ℕ × Side)
wanted_of wish = map asked_for wish.items.recipes

pub record IsWayOf (wish : CrossWish) (w : Way) : Type 0 where
  pub sides : w.sides ≡ wish.head.sides
  pub ahead : w.ahead ≡ encoded_needs wish.head.sides by_build wish.head.essential
  pub wanted : map wanted_as w.wanted ≡ wanted_of wish

-- ---- what comes out

-- what stands behind the head is finished
abbrev pub IsFinishedText : Sides → List ℕ → List ℕ → Type 0
IsFinishedText s made text =
    (finished : List ℕ) × IsFinished s (drop (length HEAD.now) made) finished
    × (text ≡ HEAD.now ++ finished)

pub record AreFinishedTexts (s : Sides) (made texts : ImportedTexts) : Type 0 where
  pub packages : IsFinishedText s made.packages.items texts.packages.items
  pub sources : texts.sources.items ≡ made.sources.items
  pub farm : texts.farm.items ≡ made.farm.items

-- the packages are such as their indexes have them, and no package among them would be taken for what
-- another one asks for, or for one that another one excludes, and not by dpkg
pub record AreClear (s : Sides) (packages : List ℕ) : Type 0 where
  pub paragraphs : List Paragraph
  pub read : paragraphs_at packages ≡ Ok paragraphs
  pub all : List Binary
  pub given : traverse (given_at s) paragraphs ≡ Ok all
  pub kept : ArePackagesKept s all paragraphs

-- they are read, and have recipes of these names, in their order
pub record IsFarmOf (names : List (List ℕ)) (texts : ImportedTexts) : Type 0 where
  pub universe : Universe
  pub read :
      universe_of texts.packages.items texts.sources.items texts.farm.items ≡ Ok universe
  pub recipes : map (λ recipe. recipe.name) universe.recipes ≡ names

-- ---- the import

-- texts are the finished ones of a native import of these inputs
pub record AreOf (wish : CrossWish) (encoded : Inputs) (texts : ImportedTexts) : Type 0 where
  pub made : ImportedTexts
  pub unmet : Vec Unmet
  pub told : Vec ℕ
  pub imported : AreImported encoded (Texts made unmet told)
  pub finished : AreFinishedTexts wish.head.sides made texts
  pub clear : AreClear wish.head.sides made.packages.items
  pub farm : IsFarmOf wish.items.recipe_names texts

-- .. of which the indexes have these texts
pub record AreOfIndexes (wish : CrossWish) (packages archive sources : List (List ℕ))
    (texts : ImportedTexts) : Type 0 where
  pub encoded : Inputs
  pub has_packages : texts_of encoded.packages.now ≡ packages
  pub has_archive : texts_of encoded.archive.now ≡ archive
  pub has_sources : texts_of encoded.sources.now ≡ sources
  pub are : AreOf wish encoded texts

-- .. which encode the given ones
pub record AreEncodedOf (wish : CrossWish) (w : Way) (given : Inputs) (texts : ImportedTexts)
    : Type 0 where
  pub packages : List (List ℕ)
  pub archive : List (List ℕ)
  pub sources : List (List ℕ)
  pub encode_packages : AreEach (IsEncodedIndex wish.head.sides false)
      (texts_of given.packages.now) packages
  pub encode_archive : AreEach (IsEncodedIndex wish.head.sides true)
      (texts_of (archive_of given)) archive
  pub encode_sources : AreEach (AreEncodedSources w) (texts_of given.sources.now) sources
  pub are : AreOfIndexes wish packages archive sources texts

-- .. for the sources that a wish names
pub record AreMade (wish : CrossWish) (given : Inputs) (texts : ImportedTexts) : Type 0 where
  pub way : Way
  pub is : IsWayOf wish way
  pub are : AreEncodedOf wish way given texts

pub record AreOfParagraphs (given : Inputs) (paragraphs : List Paragraph) (texts : ImportedTexts)
    : Type 0 where
  pub wish : CrossWish
  pub says : cross_wish_at paragraphs ≡ Ok wish
  pub are : AreMade wish given texts

pub record AreOfWish (given : Inputs) (texts : ImportedTexts) : Type 0 where
  pub paragraphs : List Paragraph
  pub read : paragraphs_at given.wish.now ≡ Ok paragraphs
  pub are : AreOfParagraphs given paragraphs texts

abbrev pub OnTexts : (ImportedTexts → Type 0) → Imported → Type 0
OnTexts Are (Texts texts unmet lines) = Are texts
OnTexts Are (Refused lines) = Unit {0}
OnTexts Are Wrong = Unit {0}

abbrev pub HasNone : Imported → Type 0
HasNone (Texts texts unmet lines) = ⊥
HasNone (Refused lines) = Unit {0}
HasNone Wrong = Unit {0}

abbrev pub AreCrossImported : Inputs → Imported → Type 0
AreCrossImported given answer = OnTexts (AreOfWish given) answer
