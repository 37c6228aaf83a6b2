-- An answer, from one meaning to another.
use Rattle.std.proofs.Common.{◌≡◌, ℕ, List, [], Result, Ok, Err}
use Rattle.report_sink.specs.Sinks.{SinkState}
use Rattle.farm_answers.specs.Answers.{IsAnswered, UnlessUnread, no_status}
use Rattle.farm_answers.specs.declared.fault.OutsideFault.{OutsideFault}
use Rattle.farm_answers.specs.declared.fault.OutsideFault.TheVariants.{CannotRead, OutOfMemory, CutShort, BadSchedule, WriteFailed}
use Rattle.farm_answers.specs.declared.status.TheConstants.{WRONG_WORDS}

-- an answer in one meaning is one in another, where each that the first allows the second does
pub answered-by : (A B : List ℕ → ℕ → Type 0) (old new : SinkState) (told : Result ℕ OutsideFault)
    → ((text : List ℕ) (status : ℕ) → A text status → B text status)
    → IsAnswered A old new told → IsAnswered B old new told
answered-by A B old new (Ok status) by is = (is.0, by is.0 status is.1, is.2, is.3)
answered-by A B old new (Err WriteFailed) by is = (is.0, is.1, by is.0 is.1 is.2, is.3, is.4)
answered-by A B old new (Err CutShort) by is = (is.0, by is.0 no_status is.1, is.2, is.3)
answered-by A B old new (Err (BadSchedule note)) by is = (by [] WRONG_WORDS is.0, is.1)
answered-by A B old new (Err OutOfMemory) by is = is
answered-by A B old new (Err (CannotRead unread)) by is = is

-- what is answered to texts that were read
pub unless-answered : (Names : List ℕ → Type 0) (A : List ℕ → ℕ → Type 0) (old new : SinkState)
    (told : Result ℕ OutsideFault) → IsAnswered A old new told
    → UnlessUnread Names (new ≡ old) (IsAnswered A old new told) told
unless-answered Names A old new (Ok status) is = is
unless-answered Names A old new (Err WriteFailed) is = is
unless-answered Names A old new (Err CutShort) is = is
unless-answered Names A old new (Err (BadSchedule note)) is = is
unless-answered Names A old new (Err OutOfMemory) is = is
unless-answered Names A old new (Err (CannotRead unread)) is = absurd is
