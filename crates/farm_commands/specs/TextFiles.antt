-- The files that a command writes. The project's own rules. Parameters: old and new the files before
-- and after.
--
--   TextFile                 a file, the one beside it that is written first, and its text
--   farm_files_in folder packages sources farm more   those of a folder for the texts of a farm, and more
--   files_in folder texts chosen   of an import: these, and that of the explicit wish if one was chosen
--   rest_files_in folder texts sketch   of what is left of a run: these, and that of the sketch
--   AreApart files           no two of them share a name
--   AreBeside                what is done to the files beside their own
--   AreNamed                 what is done to their own names
--   AreWritten               both
use Rattle.std.specs.Prelude.{◌≡◌, ◌≢◌, ◌⊎◌, ℕ, ◌==◌, List, [], ◌∷◌, ◌++◌, All, codes, Option, None, Some, Result, IfOk, if◌then◌else◌}
use Rattle.std.specs.List.{ends_with}
use Rattle.std.specs.String.{string_bytes}
use Rattle.farm_commands.specs.Folders.{Holds, Stays}
use Rattle.farm_commands.specs.declared.text_files.TextFile.{TextFile}
use Rattle.import_farm.specs.declared.imported.ImportedTexts.{ImportedTexts}
use Rattle.rest_farm.specs.declared.judgement.RestTexts.{RestTexts}

pub record FileOf : Type 0 where
  pub own : List ℕ
  pub beside : List ℕ
  pub text : List ℕ

abbrev pub file_of : TextFile → FileOf
file_of file = record {
  own = string_bytes file.own;
  beside = string_bytes file.beside;
  text = file.text.now;
}

-- a slash, unless the name of the folder ends with one
abbrev pub slash_after : List ℕ → List ℕ
slash_after folder = if ends_with (λ a b. a == b) folder (codes "/") then [] else codes "/"

abbrev pub path_in : List ℕ → List ℕ → List ℕ
path_in folder name = folder ++ (slash_after folder ++ name)

abbrev pub file_in : List ℕ → List ℕ → List ℕ → FileOf
file_in folder name text = record {
  own = path_in folder name;
  beside = path_in folder (name ++ codes ".new");
  text = text;
}

abbrev pub wish_files_in : List ℕ → Option (List ℕ) → List FileOf
wish_files_in folder None = []
wish_files_in folder (Some text) = file_in folder (codes "wish") text ∷ []

abbrev pub farm_files_in : List ℕ → (packages sources farm : List ℕ) → List FileOf → List FileOf
farm_files_in folder packages sources farm more =
    file_in folder (codes "packages") packages ∷ file_in folder (codes "sources") sources
    ∷ file_in folder (codes "farm") farm ∷ more

abbrev pub files_in : List ℕ → ImportedTexts → Option (List ℕ) → List FileOf
files_in folder texts chosen =
    farm_files_in folder texts.packages.items texts.sources.items texts.farm.items
    (wish_files_in folder chosen)

abbrev pub rest_files_in : List ℕ → RestTexts → List ℕ → List FileOf
rest_files_in folder texts sketch =
    farm_files_in folder texts.packages.items texts.sources.items texts.farm.items
    (file_in folder (codes "sketch") sketch ∷ [])

-- two files share no name
pub record IsApart (f g : FileOf) : Type 0 where
  pub own : f.own ≢ g.own
  pub beside : f.beside ≢ g.beside
  pub own_beside : f.own ≢ g.beside
  pub beside_own : f.beside ≢ g.own

abbrev pub AreApart : List FileOf → Type 0
AreApart [] = Unit {0}
AreApart (f ∷ rest) = (f.own ≢ f.beside) × All (IsApart f) rest × AreApart rest

abbrev pub IsNotBeside : List ℕ → FileOf → Type 0
IsNotBeside name f = name ≢ f.beside

abbrev pub IsNeither : List ℕ → FileOf → Type 0
IsNeither name f = (name ≢ f.own) × (name ≢ f.beside)

abbrev pub StaysBeside : (List ℕ → Option (List ℕ)) → (List ℕ → Option (List ℕ)) → FileOf → Type 0
StaysBeside old new f = Stays (old f.beside) (new f.beside)

abbrev pub HasNone : (List ℕ → Option (List ℕ)) → FileOf → Type 0
HasNone old f = old f.beside ≡ None

abbrev pub HoldsBeside : (List ℕ → Option (List ℕ)) → FileOf → Type 0
HoldsBeside new f = Holds (new f.beside) f.text

abbrev pub HoldsOwn : (List ℕ → Option (List ℕ)) → FileOf → Type 0
HoldsOwn new f = Holds (new f.own) f.text

-- its own file is as it was, or holds its text
abbrev pub IsOldOrNew : (List ℕ → Option (List ℕ)) → (List ℕ → Option (List ℕ)) → FileOf → Type 0
IsOldOrNew old new f = (new f.own ≡ old f.own) ⊎ HoldsOwn new f

-- no other files change than those beside their own
abbrev pub IsBesideLeft : List FileOf → (List ℕ → Option (List ℕ)) → (List ℕ → Option (List ℕ))
    → Type 0
IsBesideLeft files old new = (name : List ℕ) → All (IsNotBeside name) files → new name ≡ old name

-- Of texts that are written to the files beside their own:
pub record AreBeside {V E : Type 0} (files : List FileOf) (old new : List ℕ → Option (List ℕ))
    (told : Result V E) : Type 0 where
  -- no other file changes;
  pub others : IsBesideLeft files old new
  -- one that was there stays;
  pub stays : All (StaysBeside old new) files
  -- if all are written there was none, and they hold the texts.
  pub none : IfOk told (λ _. All (HasNone old) files)
  pub hold : IfOk told (λ _. All (HoldsBeside new) files)

-- Of such files that get their own names:
pub record AreNamed {V E : Type 0} (files : List FileOf) (old new : List ℕ → Option (List ℕ))
    (told : Result V E) : Type 0 where
  -- no further file changes;
  pub others : (name : List ℕ) → All (IsNeither name) files → new name ≡ old name
  -- each is as it was, or holds its text;
  pub each : All (IsOldOrNew old new) files
  -- and all hold theirs if none failed.
  pub hold : IfOk told (λ _. All (HoldsOwn new) files)

-- Of texts that are written to files:
pub record AreWritten {V E : Type 0} (files : List FileOf) (old new : List ℕ → Option (List ℕ))
    (told : Result V E) : Type 0 where
  -- no further file changes;
  pub others : (name : List ℕ) → All (IsNeither name) files → new name ≡ old name
  -- one that was there beside them stays;
  pub stays : All (StaysBeside old new) files
  -- each is as it was, or holds its text;
  pub each : All (IsOldOrNew old new) files
  -- and all hold theirs if none failed.
  pub hold : IfOk told (λ _. All (HoldsOwn new) files)
