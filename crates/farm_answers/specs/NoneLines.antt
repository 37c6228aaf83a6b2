-- What is written where a verdict is asked for as JSON, and there is none: an object on a line, in the
-- form of RFC 8259. The project's own rules.
--
--   none_line name words   that a file cannot be read, with these words on why
--   SaysNone               the line is written where it is asked for
use Rattle.std.specs.Prelude.{◌≡◌, ℕ, Bool, true, false, List, ◌++◌, codes, Result, Ok, Err}
use Rattle.farm_answers.specs.Reasons.{words_of}
use Rattle.farm_answers.specs.declared.fault.OutsideFault.{OutsideFault}
use Rattle.farm_answers.specs.declared.fault.OutsideFault.TheVariants.{CannotRead, OutOfMemory, CutShort, BadSchedule, WriteFailed}
use Rattle.shown_text.specs.Escapes.{quoted}
use Rattle.report_sink.specs.Sinks.{SinkState, IsWritten}

-- a name, words behind it, and the end of the object
abbrev pub quoted_end : List ℕ → List ℕ → List ℕ
quoted_end name words = quoted name ++ (words ++ codes "\",\"verdict\":\"none\"}\n")

abbrev pub none_line : List ℕ → List ℕ → List ℕ
none_line name words = codes "{\"error\":\"cannot read " ++ quoted_end name words

-- that memory ran out
abbrev pub no_memory_line : List ℕ
no_memory_line = codes "{\"error\":\"out of memory\",\"verdict\":\"none\"}\n"

-- the line of what was told, if it is one of these
abbrev pub TellsNone : SinkState → SinkState → Result ℕ OutsideFault → Type 0
TellsNone old new (Ok status) = new ≡ old
TellsNone old new (Err (CannotRead unread)) =
    IsWritten old new (none_line unread.name.now (words_of unread.why))
TellsNone old new (Err OutOfMemory) = IsWritten old new no_memory_line
TellsNone old new (Err CutShort) = new ≡ old
TellsNone old new (Err (BadSchedule note)) = new ≡ old
TellsNone old new (Err WriteFailed) = new ≡ old

abbrev pub SaysNone : Bool → SinkState → SinkState → Result ℕ OutsideFault → Type 0
SaysNone true old new told = TellsNone old new told
SaysNone false old new told = new ≡ old
