-- What is asked for, and the words that ask. The project's own rules.
-- Parameter: words, those behind the program's name.
--
--   IsWord words text          a word is this text
--   EndsWord words text        a word ends with this text, as `--schedule=0,1` with `0,1`
--   ArePathWords words paths   the names of the four files are words
--   AreFarmWords words paths   the names of the three files of a farm are
--   IsJournalWord words journal   a word ends with the name of a journal, if there is one
--   IsAskedBy words asked      what is asked for has its names and its schedule from the words
--   command_asked asked        the command that it is asked for by; none for no word at all
--   IsCommand words name       the first word is the name of a command
--   AsksHelp words             the words ask for help or the version
--   IsRefusedFor words fault   a bad schedule comes from the words, and is none; help is asked for
use Rattle.std.specs.Prelude.{◌≡◌, ◌⊎◌, ℕ, Bool, true, ◌==◌, ◌||◌, List, [], All, codes, slice_get, Option, Some, None, Ok, Err, IfSome}
use Rattle.std.specs.Borrow.{Bor}
use Rattle.std.specs.List.{ends_with, list_any, starts_with}
use Rattle.std.specs.Option.{option_map}
use Rattle.std.specs.Str.{bytes_eq}
use Rattle.command_line.specs.declared.request.Asked.{Asked}
use Rattle.command_line.specs.declared.request.Asked.TheVariants.{Answer, Run, Drive, Import, After}
use Rattle.command_line.specs.declared.after.AfterFiles.{AfterFiles}
use Rattle.command_line.specs.declared.after.AfterWords.{AfterWords}
use Rattle.command_line.specs.declared.after.NewPaths.{NewPaths}
use Rattle.command_line.specs.declared.import.ImportWords.{ImportWords}
use Rattle.command_line.specs.declared.request.FarmPaths.{FarmPaths}
use Rattle.command_line.specs.declared.request.Paths.{Paths}
use Rattle.command_line.specs.declared.request.Request.{Request}
use Rattle.command_line.specs.declared.request.Request.TheVariants.{CheckInput, Check, Explain, ExplainCert, List as ListPlan, Cert, VerifyCert, Step, StepBy, Timeline, Graph, Needs, Status, Draft, DraftLanes}
use Rattle.command_line.specs.declared.request.WordsFault.{WordsFault}
use Rattle.command_line.specs.declared.request.WordsFault.TheVariants.{Help, Wrong, BadSchedule, Memory}
use Rattle.command_line.specs.declared.schedule.ScheduleFault.{ScheduleFault}
use Rattle.command_line.specs.Schedule.{lane_at, schedule_of}

abbrev pub IsWord : List (List ℕ) → List ℕ → Type 0
IsWord words text = list_any (λ word. bytes_eq word text) words ≡ true

abbrev pub EndsWord : List (List ℕ) → List ℕ → Type 0
EndsWord words text = list_any (λ word. ends_with (λ a b. a == b) word text) words ≡ true

pub record ArePathWords (words : List (List ℕ)) (paths : Paths) : Type 0 where
  pub packages : IsWord words paths.packages.now
  pub sources : IsWord words paths.sources.now
  pub farm : IsWord words paths.farm.now
  pub plan : IsWord words paths.plan.now

pub record AreFarmWords (words : List (List ℕ)) (paths : FarmPaths) : Type 0 where
  pub packages : IsWord words paths.packages.now
  pub sources : IsWord words paths.sources.now
  pub farm : IsWord words paths.farm.now

-- a word ends with the name of a journal, if there is one, as `--journal=j` with `j`
abbrev pub IsJournalWord : List (List ℕ) → Option (List ℕ) → Type 0
IsJournalWord words journal = IfSome journal (λ name. EndsWord words name)

-- a word ends with a text that is this number
abbrev pub HasNumber : List (List ℕ) → ℕ → Type 0
HasNumber words number = (text : List ℕ) × EndsWord words text × (lane_at text ≡ Ok number)

-- a word ends with a text that is this schedule
abbrev pub HasSchedule : List (List ℕ) → List ℕ → Type 0
HasSchedule words schedule = (text : List ℕ) × EndsWord words text
    × (schedule_of text ≡ Ok schedule)

-- each name that stands behind an option ends a word, as in `--packages=Packages`
abbrev pub EndWords : List (List ℕ) → List (Bor (List ℕ)) → Type 0
EndWords words names = All (λ name. EndsWord words name.now) names

abbrev pub IsRequestedBy : List (List ℕ) → Request → Type 0
IsRequestedBy words CheckInput = words ≡ []
IsRequestedBy words (Check paths json) = ArePathWords words paths
IsRequestedBy words (Explain paths json) = ArePathWords words paths
IsRequestedBy words (ExplainCert cert paths) = EndsWord words cert.now × ArePathWords words paths
IsRequestedBy words (ListPlan paths number) = ArePathWords words paths
IsRequestedBy words (Cert paths) = ArePathWords words paths
IsRequestedBy words (VerifyCert cert paths) = IsWord words cert.now × ArePathWords words paths
IsRequestedBy words (Step schedule paths) =
    HasSchedule words schedule.items × ArePathWords words paths
IsRequestedBy words (StepBy list paths) = EndsWord words list.now × ArePathWords words paths
IsRequestedBy words (Timeline paths form full) = ArePathWords words paths
IsRequestedBy words (Graph paths json) = ArePathWords words paths
IsRequestedBy words (Needs recipes paths json) =
    EndWords words recipes.items × ArePathWords words paths
IsRequestedBy words (Status journal paths json) =
    EndsWord words journal.now × ArePathWords words paths
IsRequestedBy words (Draft paths rest partial) = ArePathWords words paths
IsRequestedBy words (DraftLanes paths lanes partial) =
    HasNumber words lanes × AreFarmWords words paths

-- Of the words of an import:
pub record AreImportWords (words : List (List ℕ)) (asked : ImportWords) : Type 0 where
  pub archive : EndWords words asked.archive.items
  pub packages : EndWords words asked.packages.items
  pub sources : EndWords words asked.sources.items
  pub forbidden : EndWords words asked.forbidden.items
  pub wish : IsWord words asked.wish.now
  pub folder : IsWord words asked.folder.now

-- the name of a file that is given in place of one of the run ends a word
abbrev pub IsGivenWord : List (List ℕ) → Option (Bor (List ℕ)) → Type 0
IsGivenWord words name = IsJournalWord words (option_map (λ n. n.now) name)

pub record AreGivenWords (words : List (List ℕ)) (given : NewPaths) : Type 0 where
  pub packages : IsGivenWord words given.packages
  pub sources : IsGivenWord words given.sources
  pub farm : IsGivenWord words given.farm
  pub sketch : IsGivenWord words given.sketch

-- Of the files of what is left of a run:
pub record AreAfterFiles (words : List (List ℕ)) (files : AfterFiles) : Type 0 where
  pub paths : ArePathWords words files.paths
  pub journal : EndsWord words files.journal.now
  pub folder : IsWord words files.folder.now
  pub given : AreGivenWords words files.given

-- and of its words:
pub record AreAfterWords (words : List (List ℕ)) (asked : AfterWords) : Type 0 where
  pub files : AreAfterFiles words asked.files
  pub withdrawn : EndWords words asked.withdrawn.items
  pub came : EndWords words asked.came.items

abbrev pub IsAskedBy : List (List ℕ) → Asked → Type 0
IsAskedBy words (Answer request) = IsRequestedBy words request
IsAskedBy words (Run paths progress) = ArePathWords words paths
IsAskedBy words (Drive paths journal progress) =
    ArePathWords words paths × IsJournalWord words (option_map (λ name. name.now) journal)
IsAskedBy words (Import asked) = AreImportWords words asked
IsAskedBy words (After asked) = AreAfterWords words asked

-- the command that answers a request
abbrev pub command_of : Request → Option (List ℕ)
command_of CheckInput = None
command_of (Check paths json) = Some (codes "check")
command_of (Explain paths json) = Some (codes "explain")
command_of (ExplainCert cert paths) = Some (codes "explain")
command_of (ListPlan paths number) = Some (codes "list")
command_of (Cert paths) = Some (codes "cert")
command_of (VerifyCert cert paths) = Some (codes "verify-cert")
command_of (Step schedule paths) = Some (codes "step")
command_of (StepBy list paths) = Some (codes "step")
command_of (Timeline paths form full) = Some (codes "timeline")
command_of (Graph paths json) = Some (codes "graph")
command_of (Needs recipes paths json) = Some (codes "graph")
command_of (Status journal paths json) = Some (codes "status")
command_of (Draft paths rest partial) = Some (codes "draft")
command_of (DraftLanes paths lanes partial) = Some (codes "draft")

abbrev pub command_asked : Asked → Option (List ℕ)
command_asked (Answer request) = command_of request
command_asked (Run paths progress) = Some (codes "run")
command_asked (Drive paths journal progress) = Some (codes "drive")
command_asked (Import asked) = Some (codes "import")
command_asked (After asked) = Some (codes "after")

-- the first word is this name; there is no word where there is none
abbrev pub IsNamed : List (List ℕ) → Option (List ℕ) → Type 0
IsNamed words name = slice_get words 0 ≡ name

abbrev pub IsCommand : List (List ℕ) → List ℕ → Type 0
IsCommand words name = IsNamed words (Some name)

-- the long options, or a short one, maybe with others behind it
abbrev pub is_help_option : List ℕ → Bool
is_help_option word =
    bytes_eq word (codes "--help") || bytes_eq word (codes "--version")
    || starts_with (λ a b. a == b) word (codes "-h") || starts_with (λ a b. a == b) word (codes "-V")

-- the first word is `help`, or one is an option that asks for help or the version
abbrev pub AsksHelp : List (List ℕ) → Type 0
AsksHelp words =
    (list_any is_help_option words ≡ true) ⊎ IsCommand words (codes "help")

-- a word ends with a text that is no schedule
abbrev pub HasBadSchedule : List (List ℕ) → Type 0
HasBadSchedule words =
    (text : List ℕ) × EndsWord words text × (schedule_of text ≡ Err ScheduleFault.BadSchedule)

abbrev pub IsRefusedFor : List (List ℕ) → WordsFault → Type 0
IsRefusedFor words (Help text) = AsksHelp words
IsRefusedFor words (Wrong text) = Unit {0}
IsRefusedFor words BadSchedule = HasBadSchedule words
IsRefusedFor words Memory = Unit {0}
