-- What words that ask for a drive come to. The project's own rules. Parameter: kept the bytes of the
-- journal of a name, where they are known.
--
--   DrivesBy      a drive of the plan of files whose names stand among the words
use Rattle.std.specs.Prelude.{ℕ, List, codes, Option, Result}
use Rattle.command_line.specs.Words.{ArePathWords, IsCommand, IsJournalWord}
use Rattle.command_line.specs.declared.request.Paths.{Paths}
use Rattle.drive_answers.specs.DriveAnswers.{DrivesTo, kept_in}
use Rattle.farm_answers.specs.Files.{named}
use Rattle.farm_answers.specs.declared.fault.OutsideFault.{OutsideFault}
use Rattle.report_sink.specs.Sinks.{SinkState}

-- `drive` is the first word, and the name of its journal, if it has one, is what a word ends with
abbrev pub DrivesBy : List (List ℕ) → (List ℕ → Option (List ℕ)) → Option (List ℕ)
    → (List ℕ → Option (List ℕ)) → SinkState → SinkState → SinkState → SinkState
    → Result ℕ OutsideFault → Type 0
DrivesBy words held given kept old new before after told =
    IsCommand words (codes "drive") × (paths : Paths) × ArePathWords words paths
    × (journal : Option (List ℕ)) × IsJournalWord words journal
    × DrivesTo (named held given) (kept_in kept journal) paths old new before after told
