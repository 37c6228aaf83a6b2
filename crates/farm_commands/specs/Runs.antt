-- What words come to. The project's own rules.
--
--   status_told      the status of the program
--   TellsFault       the line of a fault outside of the texts, written to the error output
--   TellsWords       what is told of words that ask for no answer
--   ComesTo          what is written to the output, and what is told
--   MayRunTo         the same where words may ask for a run or a drive too
--   MayComeTo        the same where they may ask for an import or what is left of a run too
use Rattle.std.specs.Prelude.{◌≡◌, ◌⊎◌, ℕ, List, codes, length, Option, Result, Ok, Err}
use Rattle.command_line.specs.declared.after.AfterWords.{AfterWords}
use Rattle.command_line.specs.declared.import.ImportWords.{ImportWords}
use Rattle.command_line.specs.declared.request.Paths.{Paths}
use Rattle.command_line.specs.declared.request.Request.{Request}
use Rattle.command_line.specs.declared.request.Request.TheVariants.{CheckInput}
use Rattle.command_line.specs.Words.{AreAfterWords, AreImportWords, ArePathWords, AsksHelp, IsCommand, IsNamed, IsRequestedBy, command_of}
use Rattle.report_sink.specs.Sinks.{SinkState, IsWritten}
use Rattle.farm_answers.specs.Answers.{IsAnswered}
use Rattle.farm_answers.specs.FaultLines.{fault_status, outside_fault_line}
use Rattle.farm_answers.specs.FarmAnswers.{RunsTo}
use Rattle.farm_commands.specs.Afters.{IsAfter}
use Rattle.farm_commands.specs.Drives.{DrivesBy}
use Rattle.farm_commands.specs.Folders.{AreSame}
use Rattle.farm_commands.specs.Imports.{IsImport}
use Rattle.farm_commands.specs.Requests.{IsRequestAnswered}
use Rattle.farm_answers.specs.Files.{named}
use Rattle.farm_answers.specs.declared.fault.OutsideFault.{OutsideFault}
use Rattle.farm_answers.specs.declared.fault.OutsideFault.TheVariants.{OutOfMemory}
use Rattle.farm_answers.specs.declared.status.TheConstants.{FINE, WRONG_WORDS}

-- what is answered where words ask for help or the version: some text
abbrev pub Shows : List ℕ → ℕ → Type 0
Shows text status = status ≡ FINE

-- the status that is told, or that of a fault outside of the texts
abbrev pub status_told : Result ℕ OutsideFault → ℕ
status_told (Ok status) = status
status_told (Err fault) = fault_status fault

-- a fault outside of the texts is said on the error output
abbrev pub TellsFault : SinkState → SinkState → Result ℕ OutsideFault → Type 0
TellsFault old new (Ok status) = Unit {0}
TellsFault old new (Err fault) = IsWritten old new (outside_fault_line fault)

-- the words are wrong, or memory is refused
abbrev pub AreRefused : Result ℕ OutsideFault → Type 0
AreRefused told = (told ≡ Ok WRONG_WORDS) ⊎ (told ≡ Err OutOfMemory)

-- help is shown where the words ask for it; else they are refused, and nothing is written to the
-- output
abbrev pub TellsWords : List (List ℕ) → SinkState → SinkState → Result ℕ OutsideFault → Type 0
TellsWords words old new told =
    (AsksHelp words × IsAnswered Shows old new told) ⊎ ((new ≡ old) × AreRefused told)

-- What words come to, by what is known of the bytes of files and of standard input:
pub record ComesTo (words : List (List ℕ)) (held : List ℕ → Option (List ℕ))
    (given : Option (List ℕ)) (old new : SinkState) (told : Result ℕ OutsideFault) : Type 0 where
  -- a request is answered whose command is the first word, and whose names stand among the words,
  -- or the words ask for none;
  pub outcome : ((request : Request) × IsNamed words (command_of request)
      × IsRequestedBy words request × IsRequestAnswered held given request old new told)
      ⊎ TellsWords words old new told
  -- and no word at all asks for the verdict on standard input.
  pub no_word : length words ≡ 0 → IsRequestAnswered held given CheckInput old new told

-- the same, or for the first words `run` and `drive` a run of the plan of files whose names stand
-- among the words, and a drive of it; kept the bytes of journals, before and after the states of the
-- error output
abbrev pub MayRunTo : List (List ℕ) → (List ℕ → Option (List ℕ)) → Option (List ℕ)
    → (List ℕ → Option (List ℕ)) → SinkState → SinkState → SinkState → SinkState
    → Result ℕ OutsideFault → Type 0
MayRunTo words held given kept old new before after told =
    ComesTo words held given old new told
    ⊎ (IsCommand words (codes "run") × (paths : Paths) × ArePathWords words paths
    × RunsTo (named held given) paths old new before after told)
    ⊎ DrivesBy words held given kept old new before after told

abbrev pub IsImportTold : (List ℕ → Option (List ℕ)) → (List ℕ → Option (List ℕ)) → Option (List ℕ)
    → ImportWords → SinkState → SinkState → Result ℕ OutsideFault → Type 0
IsImportTold held left given asked old new (Ok status) = IsImport held left given asked old new status
IsImportTold held left given asked old new (Err fault) = ⊥

abbrev pub IsAfterTold : (List ℕ → Option (List ℕ)) → (List ℕ → Option (List ℕ)) → Option (List ℕ)
    → AfterWords → SinkState → SinkState → Result ℕ OutsideFault → Type 0
IsAfterTold held left given asked old new (Ok status) = IsAfter held left given asked old new status
IsAfterTold held left given asked old new (Err fault) = ⊥

-- that, and each file is as it was; or for the first words `import` and `after` an import of files whose
-- names stand among the words, and what is left of the run of such files, which has left files with
-- these bytes
abbrev pub MayComeTo : List (List ℕ) → (List ℕ → Option (List ℕ)) → (List ℕ → Option (List ℕ))
    → Option (List ℕ) → (List ℕ → Option (List ℕ)) → SinkState → SinkState → SinkState → SinkState
    → Result ℕ OutsideFault → Type 0
MayComeTo words held left given kept old new before after told =
    (AreSame held left × MayRunTo words held given kept old new before after told)
    ⊎ (IsCommand words (codes "import") × (asked : ImportWords) × AreImportWords words asked
    × IsImportTold held left given asked old new told)
    ⊎ (IsCommand words (codes "after") × (asked : AfterWords) × AreAfterWords words asked
    × IsAfterTold held left given asked old new told)
