-- What a fault outside of the texts is told as. The project's own rules.
--
--   fault_status        its status
--   outside_fault_line  what is said of it
use Rattle.std.specs.Prelude.{ℕ, List, ◌++◌, codes}
use Rattle.farm_answers.specs.Reasons.{words_of}
use Rattle.farm_answers.specs.declared.fault.OutsideFault.{OutsideFault}
use Rattle.farm_answers.specs.declared.fault.OutsideFault.TheVariants.{CannotRead, OutOfMemory, CutShort, BadSchedule, WriteFailed}
use Rattle.farm_answers.specs.declared.status.TheConstants.{OUTSIDE, WRONG_WORDS}
use Rattle.shown_text.specs.Escapes.{escaped}

-- the status of a fault outside of the texts
abbrev pub fault_status : OutsideFault → ℕ
fault_status (CannotRead unread) = OUTSIDE
fault_status OutOfMemory = OUTSIDE
fault_status CutShort = OUTSIDE
fault_status (BadSchedule note) = WRONG_WORDS
fault_status WriteFailed = OUTSIDE

-- a name, of which those bytes are escaped that are not printable ASCII, and words behind it
abbrev pub escaped_line : List ℕ → List ℕ → List ℕ
escaped_line name words = escaped name ++ (words ++ codes "\n")

abbrev pub cannot_read_line : List ℕ → List ℕ → List ℕ
cannot_read_line name words = codes "portfarm: cannot read " ++ escaped_line name words

-- a line, and one below it
abbrev pub bad_schedule_lines : List ℕ → List ℕ
bad_schedule_lines note = codes "portfarm: bad schedule\n" ++ note

-- what is said of a fault outside of the texts
abbrev pub outside_fault_line : OutsideFault → List ℕ
outside_fault_line (CannotRead unread) = cannot_read_line unread.name.now (words_of unread.why)
outside_fault_line OutOfMemory = codes "portfarm: out of memory\n"
outside_fault_line CutShort = codes "portfarm: out of memory\n"
outside_fault_line (BadSchedule note) = bad_schedule_lines note.now
outside_fault_line WriteFailed = codes "portfarm: write failed\n"
