-- What an import comes to. The project's own rules. Parameters: read the bytes that a name stands for,
-- where they are known; held and given the bytes of files and of standard input before, after those of
-- files after; asked the words; old and new the output.
--
--   AreMade inputs made              this comes of inputs, by the kind of their wish
--   IsImported read asked made       this comes of the files that the words name
--   HasTexts imported texts lines    texts come of it, and these lines on them
--   text_in chosen                   the text of the explicit wish, if one was chosen
--   AreImportFiles read asked        files and lines are those of such texts
--   IsImport                         the files are written, or not, by the status
use Rattle.std.specs.Prelude.{◌≡◌, ℕ, Bool, true, false, List, Option, None, Some}
use Rattle.std.specs.Option.{option_map}
use Rattle.command_line.specs.declared.import.ImportWords.{ImportWords}
use Rattle.farm_answers.specs.Files.{named}
use Rattle.farm_commands.specs.Inputs.{AreInputs}
use Rattle.farm_commands.specs.Makings.{Makes, head_by}
use Rattle.farm_commands.specs.TextFiles.{FileOf, files_in}
use Rattle.cross_import.specs.CrossImport.{AreCrossImported, cross_in}
use Rattle.farm_commands.specs.declared.by_wish.Made.{Made}
use Rattle.farm_commands.specs.declared.making.Maker.TheVariants.{Import}
use Rattle.import_farm.specs.Imported.{AreImported}
use Rattle.import_farm.specs.declared.imported.Imported.{Imported}
use Rattle.import_farm.specs.declared.imported.Imported.TheVariants.{Texts, Refused, Wrong}
use Rattle.import_farm.specs.declared.imported.ImportedTexts.{ImportedTexts}
use Rattle.import_farm.specs.declared.imported.Inputs.{Inputs}
use Rattle.report_sink.specs.Sinks.{SinkState}
use Rattle.std.specs.Global.{Vec}
use Rattle.import_wish.specs.Targets.{leaves_choice_in}
use Rattle.target_import.specs.ForTargets.{AreMadeFor}

abbrev pub text_in : Option (Vec ℕ) → Option (List ℕ)
text_in chosen = option_map (λ text. text.items) chosen

-- a wish is of two architectures, or leaves a choice, or is any other
abbrev pub AreOfKind : (is_cross leaves_choice : Bool) → Inputs → Made → Type 0
AreOfKind true leaves inputs made = AreCrossImported inputs made.imported × (text_in made.chosen ≡ None)
AreOfKind false true inputs made =
    (text : List ℕ) × (text_in made.chosen ≡ Some text) × AreMadeFor inputs made.imported text
AreOfKind false false inputs made = AreImported inputs made.imported × (text_in made.chosen ≡ None)

abbrev pub AreMade : Inputs → Made → Type 0
AreMade inputs made =
    AreOfKind (cross_in inputs.wish.now) (leaves_choice_in inputs.wish.now) inputs made

abbrev pub IsImported : (List ℕ → Option (List ℕ)) → ImportWords → Made → Type 0
IsImported read asked made =
    (inputs : Inputs) × AreInputs read asked inputs × AreMade inputs made

abbrev pub HasTexts : Imported → ImportedTexts → List ℕ → Type 0
HasTexts (Texts made unmet notes) texts lines = (made ≡ texts) × (notes.items ≡ lines)
HasTexts (Refused notes) texts lines = ⊥
HasTexts Wrong texts lines = ⊥

-- Files of the texts of a farm, made of the files that the words name, and of the explicit wish if one
-- was chosen; with lines on what nothing in the farm meets:
pub record AreImportFiles (read : List ℕ → Option (List ℕ)) (asked : ImportWords)
    (files : List FileOf) (lines : List ℕ) : Type 0 where
  pub made : Made
  pub texts : ImportedTexts
  pub is : IsImported read asked made
  pub has : HasTexts made.imported texts lines
  pub are : files ≡ files_in asked.folder.now texts (text_in made.chosen)

abbrev pub IsImport : (List ℕ → Option (List ℕ)) → (List ℕ → Option (List ℕ)) → Option (List ℕ)
    → ImportWords → SinkState → SinkState → ℕ → Type 0
IsImport held after given asked old new status =
    Makes (AreImportFiles (named held given) asked) (head_by Import) asked.force held after old new status
