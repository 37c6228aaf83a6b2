-- What ends a drive outside of its plan, as the error output tells it. The project's own rules.
--
--   stopped_line     a run that stopped, by its code and the lane that is the cause
--   fault_line       what failed while it went on
--   misfit_line      the line of a journal that does not fit
--   open_line        why a journal is not opened
--   store_line, no_run_line, start_line   why no run goes on by a journal, once it is open or not;
--                    why a drive does not begin
--   IsLineTold       a line is told, or want of memory
use Rattle.std.specs.Prelude.{◌≡◌, ℕ, ◌==◌, List, ◌++◌, codes, Option, Some, None, Result, Ok, Err, if◌then◌else◌}
use Rattle.std.specs.Fmt.{decimal}
use Rattle.drive_answers.specs.declared.kept.NoRun.{NoRun}
use Rattle.drive_answers.specs.declared.kept.NoRun.TheVariants as none
use Rattle.drive_run.specs.declared.driven.StartFault.{StartFault}
use Rattle.drive_run.specs.declared.driven.StartFault.TheVariants as start
use Rattle.drive_journal.specs.declared.kept.OpenFault.{OpenFault}
use Rattle.drive_journal.specs.declared.kept.OpenFault.TheVariants.{InUse, Unopened}
use Rattle.drive_journal.specs.declared.start.StoreFault.{StoreFault}
use Rattle.drive_journal.specs.declared.start.StoreFault.TheVariants.{Unread, Misfit, Failed, Memory}
use Rattle.farm_answers.specs.declared.fault.OutsideFault.{OutsideFault}
use Rattle.farm_answers.specs.declared.fault.OutsideFault.TheVariants.{OutOfMemory}
use Rattle.farm_answers.specs.declared.status.TheConstants.{OUTSIDE}
use Rattle.drive_run.specs.declared.office.Fault.{Fault}
use Rattle.drive_run.specs.declared.office.Fault.TheVariants.{WriteFailed, JournalFailed, JournalMisfit, BadAnswer}
use Rattle.report_sink.specs.Sinks.{SinkState, IsWritten}

abbrev pub stopped_line : ℕ → List ℕ → List ℕ
stopped_line code name =
    codes "portfarm: stopped " ++ (decimal code ++ (codes " lane " ++ (name ++ codes "\n")))

abbrev pub fault_line : Fault → List ℕ
fault_line WriteFailed = codes "portfarm: write failed\n"
fault_line JournalFailed = codes "portfarm: journal failed\n"
fault_line JournalMisfit = codes "portfarm: journal does not fit\n"
fault_line BadAnswer = codes "portfarm: bad answer\n"

-- the text that a line of a journal's head is of
abbrev pub head_word : ℕ → Option (List ℕ)
head_word n =
    if n == 2 then Some (codes "packages") else if n == 3 then Some (codes "sources")
    else if n == 4 then Some (codes "farm") else if n == 5 then Some (codes "plan") else None

-- a text of the head is another one
abbrev pub other_line : List ℕ → List ℕ
other_line word = codes "portfarm: journal does not fit: " ++ (word ++ codes "\n")

-- this line does not follow from those ahead of it
abbrev pub entry_line : ℕ → List ℕ
entry_line n = codes "portfarm: journal does not fit: line " ++ (decimal n ++ codes "\n")

abbrev pub misfit_in : ℕ → Option (List ℕ) → List ℕ
misfit_in n (Some word) = other_line word
misfit_in n None = entry_line n

abbrev pub misfit_line : ℕ → List ℕ
misfit_line n = misfit_in n (head_word n)

abbrev pub open_line : OpenFault → List ℕ
open_line InUse = codes "portfarm: journal is in use\n"
open_line Unopened = codes "portfarm: cannot open journal\n"

-- want of memory has no line here
abbrev pub store_line : StoreFault → Option (List ℕ)
store_line Unread = Some (codes "portfarm: cannot open journal\n")
store_line (Misfit n) = Some (misfit_line n)
store_line Failed = Some (codes "portfarm: journal failed\n")
store_line Memory = None

abbrev pub no_run_line : NoRun → Option (List ℕ)
no_run_line (none.Unopened f) = Some (open_line f)
no_run_line (none.Unkept f) = store_line f

abbrev pub start_line : StartFault → Option (List ℕ)
start_line (start.Misfit n) = Some (misfit_line n)
start_line start.WriteFailed = Some (fault_line WriteFailed)
start_line start.Memory = None

-- the line alone, with its status; want of memory is told as that of any command
abbrev pub IsLineTold : Option (List ℕ) → SinkState → SinkState → Result ℕ OutsideFault → Type 0
IsLineTold (Some line) before after told = (told ≡ Ok OUTSIDE) × IsWritten before after line
IsLineTold None before after told = (told ≡ Err OutOfMemory) × (after ≡ before)
