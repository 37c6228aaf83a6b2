-- What is promised of an import of a wish that leaves a choice. The project's own rules.
--
--   IsOfExplicit IsPackage IsSource text texts unmet
--                              the texts are those of the wish of this text, and of such paragraphs
--   IsMadeFor inputs texts unmet lines text
--                              the same of the indexes; the wish of this text leaves no choice; the
--                              lines have a note on each of what nothing in the farm meets
--   AreMadeFor inputs answer wish   if there are texts, they are made so for the explicit wish; or there
--                              is none, and the given wish leaves no choice
--   AreForTargets inputs answer  the same of both together
use Rattle.std.specs.Prelude.{◌≡◌, ◌⊎◌, ℕ, false, List, [], ◌++◌, Ok}
use Rattle.std.specs.Global.{Vec}
use Rattle.deb_stanza.specs.Stanza.{Paragraph}
use Rattle.farm_lookup.specs.declared.needs.Unmet.{Unmet}
use Rattle.import_farm.specs.Imported.{AreTextsOf, wish_in}
use Rattle.import_farm.specs.Made.{IsBlockIn}
use Rattle.import_farm.specs.Notes.{HasNotes}
use Rattle.import_farm.specs.declared.imported.Imported.{Imported}
use Rattle.import_farm.specs.declared.imported.Imported.TheVariants.{Texts, Refused, Wrong}
use Rattle.import_farm.specs.declared.imported.ImportedTexts.{ImportedTexts}
use Rattle.import_farm.specs.declared.imported.Inputs.{Inputs}
use Rattle.import_wish.specs.Targets.{leaves_choice_in}
use Rattle.import_wish.specs.Wish.{Wish, wish_at}

abbrev pub IsOfExplicit : (List ℕ → Type 0) → (List ℕ → Type 0) → List ℕ → ImportedTexts
    → List Unmet → Type 0
IsOfExplicit IsPackage IsSource text texts unmet =
    (wish : Wish) × (wish_in text ≡ Ok wish) × AreTextsOf IsPackage IsSource wish texts unmet

-- the same of the wish of these paragraphs
abbrev pub IsOfParagraphs : (List ℕ → Type 0) → (List ℕ → Type 0) → List Paragraph → ImportedTexts
    → List Unmet → Type 0
IsOfParagraphs IsPackage IsSource paragraphs texts unmet =
    (wish : Wish) × (wish_at paragraphs ≡ Ok wish) × AreTextsOf IsPackage IsSource wish texts unmet

abbrev pub IsOfIndexes : Inputs → List ℕ → ImportedTexts → List Unmet → Type 0
IsOfIndexes inputs text texts unmet =
    IsOfExplicit (IsBlockIn (inputs.packages.now ++ inputs.archive.now))
    (IsBlockIn inputs.sources.now) text texts unmet

pub record IsMadeFor (inputs : Inputs) (texts : ImportedTexts) (unmet : List Unmet)
    (lines text : List ℕ) : Type 0 where
  pub imported : IsOfIndexes inputs text texts unmet
  pub noted : HasNotes unmet lines
  pub explicit : leaves_choice_in text ≡ false

abbrev pub AreMadeFor : Inputs → Imported → List ℕ → Type 0
AreMadeFor inputs (Texts texts unmet lines) wish =
    IsMadeFor inputs texts unmet.items lines.items wish
    ⊎ ((wish ≡ []) × IsMadeFor inputs texts unmet.items lines.items inputs.wish.now)
AreMadeFor inputs (Refused lines) wish = wish ≡ []
AreMadeFor inputs Wrong wish = wish ≡ []

abbrev pub HasNoTexts : Imported → Type 0
HasNoTexts (Texts texts unmet lines) = ⊥
HasNoTexts (Refused lines) = Unit {0}
HasNoTexts Wrong = Unit {0}

abbrev pub AreForTargets : Inputs → Imported × Vec ℕ → Type 0
AreForTargets inputs answer = AreMadeFor inputs answer.0 answer.1.items
