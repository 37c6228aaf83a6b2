-- What comes of what is left of a run. The project's own rules. Parameters: read the bytes that a name
-- stands for, where they are known; held and given the bytes of files and of standard input before, after
-- those of files after; asked the words; old and new the output.
--
--   AreRunTexts read files of        texts and a journal are those of these files
--   IsRestOfFiles read asked made    texts are of a farm that goes on where that journal has led the run
--                                    of these texts, by the words
--   AreRestFiles read asked          files and lines are those of such texts
--   IsAfter                          the files are written, or not, by the status
use Rattle.std.specs.Prelude.{◌≡◌, ℕ, List, map, Option}
use Rattle.std.specs.Borrow.{Bor}
use Rattle.command_line.specs.declared.after.AfterFiles.{AfterFiles}
use Rattle.command_line.specs.declared.after.AfterWords.{AfterWords}
use Rattle.farm_answers.specs.Files.{named}
use Rattle.farm_answers.specs.declared.source.TheConstants.{MOST_FILE}
use Rattle.farm_commands.specs.Folders.{IsRead}
use Rattle.farm_commands.specs.Makings.{Makes, head_by}
use Rattle.farm_commands.specs.TextFiles.{FileOf, rest_files_in}
use Rattle.farm_commands.specs.declared.after.RunTexts.{RunTexts}
use Rattle.farm_commands.specs.declared.making.Maker.TheVariants.{After}
use Rattle.leg_laws.specs.Named.{Item}
use Rattle.plan_reader.specs.Input.{Texts}
use Rattle.report_sink.specs.Sinks.{SinkState}
use Rattle.rest_farm.specs.declared.judgement.RestTexts.{RestTexts}
use Rattle.rest_texts.specs.Afters.{IsRestAfter}
use Rattle.rest_texts.specs.Said.{named_items}

abbrev pub texts_in : RunTexts → Texts
texts_in of = record {
  packages = of.packages.items;
  sources = of.sources.items;
  farm = of.farm.items;
  plan = of.plan.items;
}

-- Of the files of a run, each read up to the limit:
pub record AreRunTexts (read : List ℕ → Option (List ℕ)) (files : AfterFiles) (of : RunTexts) : Type 0
  where
    pub packages : IsRead MOST_FILE (read files.paths.packages.now) of.packages.items
    pub sources : IsRead MOST_FILE (read files.paths.sources.now) of.sources.items
    pub farm : IsRead MOST_FILE (read files.paths.farm.now) of.farm.items
    pub plan : IsRead MOST_FILE (read files.paths.plan.now) of.plan.items
    pub journal : IsRead MOST_FILE (read files.journal.now) of.journal.items

-- what words name as `NAME=VERSION`
abbrev pub items_of : List (Bor (List ℕ)) → List Item
items_of words = named_items (map (λ word. word.now) words)

abbrev pub IsRestOfFiles : (List ℕ → Option (List ℕ)) → AfterWords → RestTexts → Type 0
IsRestOfFiles read asked made =
    (of : RunTexts) × AreRunTexts read asked.files of
    × IsRestAfter (texts_in of) of.journal.items (items_of asked.came.items)
    (items_of asked.withdrawn.items) made

-- Files of the texts of a farm that goes on, and of a sketch of its lanes; with any lines:
pub record AreRestFiles (read : List ℕ → Option (List ℕ)) (asked : AfterWords) (files : List FileOf)
    (lines : List ℕ) : Type 0 where
  pub made : RestTexts
  pub sketch : List ℕ
  pub is : IsRestOfFiles read asked made
  pub are : files ≡ rest_files_in asked.files.folder.now made sketch

abbrev pub IsAfter : (List ℕ → Option (List ℕ)) → (List ℕ → Option (List ℕ)) → Option (List ℕ)
    → AfterWords → SinkState → SinkState → ℕ → Type 0
IsAfter held after given asked old new status =
    Makes (AreRestFiles (named held given) asked) (head_by After) asked.force held after old new status
