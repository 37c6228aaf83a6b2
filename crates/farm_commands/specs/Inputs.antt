-- What an import reads. The project's own rules. Parameter: read the bytes that a name stands for,
-- where they are known.
--
--   Index                       an index: the name of its file, and its bytes
--   AreIndexes read names list  the indexes of these files, each up to the limit
--   AreInputs read asked inputs the wish and the indexes of the files that words name
use Rattle.std.specs.Prelude.{◌≡◌, ℕ, List, All, map, Option}
use Rattle.command_line.specs.declared.import.ImportWords.{ImportWords}
use Rattle.farm_commands.specs.Folders.{IsRead}
use Rattle.farm_commands.specs.declared.inputs.FileText.{FileText}
use Rattle.farm_commands.specs.declared.inputs.TheConstants.{MOST_INDEX, MOST_WISH}
use Rattle.import_farm.specs.declared.imported.Inputs.{Inputs}
use Rattle.import_farm.specs.declared.imported.NamedText.{NamedText}

pub record Index : Type 0 where
  pub name : List ℕ
  pub bytes : List ℕ

abbrev pub index_in : FileText → Index
index_in file = record { name = file.name.now; bytes = file.bytes.items }

abbrev pub index_of : NamedText → Index
index_of text = record { name = text.name.now; bytes = text.bytes.now }

abbrev pub IsIndex : (List ℕ → Option (List ℕ)) → Index → Type 0
IsIndex read index = IsRead MOST_INDEX (read index.name) index.bytes

pub record AreIndexes (read : List ℕ → Option (List ℕ)) (names : List (List ℕ))
    (indexes : List Index) : Type 0 where
  pub names_are : map (λ index. index.name) indexes ≡ names
  pub each : All (IsIndex read) indexes

pub record AreInputs (read : List ℕ → Option (List ℕ)) (asked : ImportWords) (inputs : Inputs)
    : Type 0 where
  pub wish : IsRead MOST_WISH (read asked.wish.now) inputs.wish.now
  pub packages : AreIndexes read (map (λ name. name.now) asked.packages.items)
      (map index_of inputs.packages.now)
  pub archive : AreIndexes read (map (λ name. name.now) asked.archive.items)
      (map index_of inputs.archive.now)
  pub sources : AreIndexes read (map (λ name. name.now) asked.sources.items)
      (map index_of inputs.sources.now)
