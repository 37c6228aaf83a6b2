-- What files are read, and what is answered to them. The project's own rules.
--
--   named             the bytes that a name stands for
--   IsCalled, IsInputName, AreCalled
--                     what a name is called, standard input, and the names of four files, where
--                     they cannot be read
--   IsUnreadBy        what is told of a name where an error of a kind comes
--   AreFilesRead      the texts of files, each up to the limit
--   AreFarmFilesRead  the same of a farm without a plan
--   OnFiles           what is answered to the texts of files
use Rattle.std.specs.Prelude.{◌≡◌, ◌≢◌, ◌⊎◌, ◌≤◌, ℕ, List, length, take, codes, Option, IfSome, if◌then◌else◌}
use Rattle.std.specs.Str.{bytes_eq}
use Rattle.std.specs.declared.io.ErrorKind.{ErrorKind}
use Rattle.farm_answers.specs.Reasons.{unreadable_of}
use Rattle.command_line.specs.declared.request.FarmPaths.{FarmPaths}
use Rattle.command_line.specs.declared.request.Paths.{Paths}
use Rattle.farm_answers.specs.declared.fault.OutsideFault.{OutsideFault}
use Rattle.farm_answers.specs.declared.fault.OutsideFault.TheVariants.{CannotRead, OutOfMemory, CutShort, BadSchedule, WriteFailed}
use Rattle.farm_answers.specs.declared.source.TheConstants.{MOST_FILE, MOST_INPUT}
use Rattle.plan_reader.specs.Input.{Texts}

-- `-` stands for standard input, and any other name for its file
abbrev pub named : (List ℕ → Option (List ℕ)) → Option (List ℕ) → List ℕ → Option (List ℕ)
named held given name = if bytes_eq name (codes "-") then given else held name

-- standard input has a name of its own
abbrev pub IsInputName : List ℕ → Type 0
IsInputName told = told ≡ codes "standard input"

-- a name is called by itself, and `-` as standard input is
abbrev pub IsCalled : List ℕ → List ℕ → Type 0
IsCalled name told = told ≡ (if bytes_eq name (codes "-") then codes "standard input" else name)

-- want of memory is that of the program, and each other error is told of the name, with its cause
abbrev pub IsUnreadBy : ErrorKind → List ℕ → OutsideFault → Type 0
IsUnreadBy kind name (CannotRead unread) =
    (kind ≢ ErrorKind.OutOfMemory) × (unread.name.now ≡ name)
    × (unread.why ≡ unreadable_of kind)
IsUnreadBy kind name OutOfMemory = kind ≡ ErrorKind.OutOfMemory
IsUnreadBy kind name CutShort = ⊥
IsUnreadBy kind name (BadSchedule note) = ⊥
IsUnreadBy kind name WriteFailed = ⊥

-- one of four files is called so
abbrev pub AreCalled : Paths → List ℕ → Type 0
AreCalled paths told =
    IsCalled paths.packages.now told ⊎ IsCalled paths.sources.now told
    ⊎ IsCalled paths.farm.now told ⊎ IsCalled paths.plan.now told

-- and one more
abbrev pub AreCalledWith : Paths → List ℕ → List ℕ → Type 0
AreCalledWith paths name told = AreCalled paths told ⊎ IsCalled name told

-- one of the files of a farm
abbrev pub AreFarmCalled : FarmPaths → List ℕ → Type 0
AreFarmCalled paths told =
    IsCalled paths.packages.now told ⊎ IsCalled paths.sources.now told
    ⊎ IsCalled paths.farm.now told

-- a text is the first bytes of a file, where these are known
abbrev pub IsFileRead : Option (List ℕ) → List ℕ → Type 0
IsFileRead known text = IfSome known (λ bytes. text ≡ take MOST_FILE bytes)

-- each text is that of its file
pub record AreFilesRead (held : List ℕ → Option (List ℕ)) (paths : Paths) (texts : Texts)
    : Type 0 where
  pub packages : IsFileRead (held paths.packages.now) texts.packages
  pub sources : IsFileRead (held paths.sources.now) texts.sources
  pub farm : IsFileRead (held paths.farm.now) texts.farm
  pub plan : IsFileRead (held paths.plan.now) texts.plan

-- each text of a farm is that of its file
pub record AreFarmFilesRead (held : List ℕ → Option (List ℕ)) (paths : FarmPaths) (texts : Texts)
    : Type 0 where
  pub packages : IsFileRead (held paths.packages.now) texts.packages
  pub sources : IsFileRead (held paths.sources.now) texts.sources
  pub farm : IsFileRead (held paths.farm.now) texts.farm

-- the whole of standard input, where it is known, and not over the limit
abbrev pub IsInput : Option (List ℕ) → List ℕ → Type 0
IsInput known input = IfSome known (λ bytes. input ≡ bytes) × (length input ≤ MOST_INPUT)

-- what is answered to the texts of these files
abbrev pub OnFiles : (List ℕ → Option (List ℕ)) → Paths → (Texts → List ℕ → ℕ → Type 0) → List ℕ → ℕ
    → Type 0
OnFiles held paths Answers text status =
    (texts : Texts) × AreFilesRead held paths texts × Answers texts text status

-- what is answered to the texts of the files of a farm
abbrev pub OnFarmFiles : (List ℕ → Option (List ℕ)) → FarmPaths → (Texts → List ℕ → ℕ → Type 0)
    → List ℕ → ℕ → Type 0
OnFarmFiles held paths Answers text status =
    (texts : Texts) × AreFarmFilesRead held paths texts × Answers texts text status

-- what is answered to the texts of these files, and to that of one more
abbrev pub OnFilesAndOne : (List ℕ → Option (List ℕ)) → Paths → List ℕ
    → (List ℕ → Texts → List ℕ → ℕ → Type 0) → List ℕ → ℕ → Type 0
OnFilesAndOne held paths name Answers text status =
    (more : List ℕ) × IsFileRead (held name) more × OnFiles held paths (Answers more) text status
