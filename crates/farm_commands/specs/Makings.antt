-- What comes of texts that a command makes and writes to files. The project's own rules. Parameters:
-- Comes says which files and lines come of what is asked; head is what each text of the command begins
-- with; held and after are the bytes of files before and after, where they are known; old and new the
-- output, or the files.
--
--   head_by maker                    what the texts of a command begin with
--   AreReplaced head force files     what becomes of the files of texts
--   IsMade, IsRefused, IsFailed      the texts are written; a refusal is told; something else failed
--   Makes                            one of these, by the status
--   IsTold                           the same where a fault is told later
use Rattle.std.specs.Prelude.{◌≡◌, ◌⊎◌, ℕ, Bool, true, false, List, All, take, length, Option, IfSome, Some, Result, Ok, Err}
use Rattle.farm_commands.specs.Folders.{AreSame}
use Rattle.farm_commands.specs.TextFiles.{FileOf, HoldsOwn, IsNeither, IsOldOrNew, StaysBeside}
use Rattle.farm_commands.specs.declared.making.Maker.{Maker}
use Rattle.farm_commands.specs.declared.making.Maker.TheVariants.{Import, After}
use Rattle.farm_commands.specs.declared.tell.TheConstants.{FINE, REFUSED, OUTSIDE}
use Rattle.import_farm.specs.declared.imported.TheConstants.{HEAD as IMPORT_HEAD}
use Rattle.rest_texts.specs.declared.packages.TheConstants.{HEAD as AFTER_HEAD}
use Rattle.report_sink.specs.Sinks.{SinkState, IsWritten}

abbrev pub head_by : Maker → List ℕ
head_by Import = IMPORT_HEAD.now
head_by After = AFTER_HEAD.now

-- a file is known by no other bytes than such as begin as the texts of the command do
abbrev pub IsOurs : List ℕ → (List ℕ → Option (List ℕ)) → FileOf → Type 0
IsOurs head old f = IfSome (old f.own) (λ bytes. take (length head) bytes ≡ head)

-- or it stays
abbrev pub IsOursOrStays : List ℕ → (List ℕ → Option (List ℕ)) → (List ℕ → Option (List ℕ)) → FileOf
    → Type 0
IsOursOrStays head old new f =
    IfSome (old f.own) (λ bytes. (take (length head) bytes ≡ head) ⊎ (new f.own ≡ Some bytes))

-- Of the files of texts:
pub record AreReplaced (head : List ℕ) (force : Bool) (files : List FileOf)
    (old new : List ℕ → Option (List ℕ)) : Type 0 where
  -- no further file changes;
  pub others : (name : List ℕ) → All (IsNeither name) files → new name ≡ old name
  -- one that was there beside them stays;
  pub stays : All (StaysBeside old new) files
  -- each is as it was, or holds its text;
  pub each : All (IsOldOrNew old new) files
  -- and without force a file of others stays.
  pub kept : force ≡ false → All (IsOursOrStays head old new) files

-- The texts are written:
pub record IsMade (Comes : List FileOf → List ℕ → Type 0) (head : List ℕ) (force : Bool)
    (held after : List ℕ → Option (List ℕ)) (old new : SinkState) : Type 0 where
  pub files : List FileOf
  pub lines : List ℕ
  -- they come of what is asked,
  pub comes : Comes files lines
  -- their files hold them, no others change,
  pub within : AreReplaced head force files held after
  pub hold : All (HoldsOwn after) files
  -- and the lines are written, all of them.
  pub told : IsWritten old new lines
  pub whole : new.failed ≡ false

-- A refusal: some lines are written, and no file.
pub record IsRefused (held after : List ℕ → Option (List ℕ)) (old new : SinkState) : Type 0 where
  pub same : AreSame held after
  pub lines : List ℕ
  pub told : IsWritten old new lines
  pub whole : new.failed ≡ false

-- Something else failed, while such texts were written or told of
pub record IsCutOff (Comes : List FileOf → List ℕ → Type 0) (head : List ℕ) (force : Bool)
    (held after : List ℕ → Option (List ℕ)) : Type 0 where
  pub files : List FileOf
  pub lines : List ℕ
  pub comes : Comes files lines
  pub within : AreReplaced head force files held after

-- or before
abbrev pub IsFailed : (List FileOf → List ℕ → Type 0) → List ℕ → Bool
    → (List ℕ → Option (List ℕ)) → (List ℕ → Option (List ℕ)) → Type 0
IsFailed Comes head force held after =
    AreSame held after ⊎ IsCutOff Comes head force held after

abbrev pub Makes : (List FileOf → List ℕ → Type 0) → List ℕ → Bool → (List ℕ → Option (List ℕ))
    → (List ℕ → Option (List ℕ)) → SinkState → SinkState → ℕ → Type 0
Makes Comes head force held after old new status =
    ((status ≡ FINE) × IsMade Comes head force held after old new)
    ⊎ ((status ≡ REFUSED) × IsRefused held after old new)
    ⊎ ((status ≡ OUTSIDE) × IsFailed Comes head force held after)

-- what is told before a failure becomes a status
abbrev pub IsTold : {E : Type 0} → (List FileOf → List ℕ → Type 0) → List ℕ → Bool
    → (List ℕ → Option (List ℕ)) → (List ℕ → Option (List ℕ)) → SinkState → SinkState
    → Result ℕ E → Type 0
IsTold Comes head force held after old new (Ok status) =
    Makes Comes head force held after old new status
IsTold Comes head force held after old new (Err fault) = IsFailed Comes head force held after
