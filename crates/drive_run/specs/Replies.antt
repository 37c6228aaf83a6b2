-- What becomes of what a lane asks for. The project's own rules. Parameters: d the desks of all
-- lanes, l the number of a lane.
--
--   reply_to l request ended    what comes of a lane's request, where the driver says more or not
--   IsHeeded                  what the lane does about that
--   IsOf                      an entry is of this instruction of this lane
--   desks_given, desks_behind   the desks behind an answer, and behind what was heard
--   is_heard d heard          it was an answer to what was asked, or none
--   IsKept old new kept e     the journal keeps an entry, by its states before and after, and
--                             whether all that it has taken stays
--   may_lose new kept         it has failed, or may lose what it has taken
--   IsNotedOrLost             it keeps an entry, or may lose what it has taken
use Rattle.std.specs.Prelude.{◌≡◌, ◌⊎◌, ◌||◌, ℕ, Bool, true, false, not, if◌then◌else◌}
use Rattle.drive_run.specs.LaneDesks.{Desks, is_open_in, posted, request_at, stopped}
use Rattle.drive_run.specs.declared.desk.Request.{Request}
use Rattle.drive_run.specs.declared.desk.Request.TheVariants as request
use Rattle.drive_protocol.specs.declared.input.Heard.{Heard}
use Rattle.drive_protocol.specs.declared.input.Heard.TheVariants.{Line, End}
use Rattle.drive_journal.specs.Entries.{Noted, noted_text}
use Rattle.drive_protocol.specs.declared.answer.Answer.TheVariants as answer
use Rattle.drive_run.specs.LaneStages.{LaneStages, passed, stage_of, with_stage}
use Rattle.drive_run.specs.declared.office.Kept.{Kept}
use Rattle.drive_run.specs.declared.office.Reply.{Reply}
use Rattle.drive_run.specs.declared.office.Reply.TheVariants as reply
use Rattle.drive_run.specs.declared.stage.Stage.TheVariants.{Ended}
use Rattle.report_sink.specs.Sinks.{SinkState, IsWritten}

-- done, only where it was asked for and answered so
abbrev pub reply_to : ℕ → Request → Bool → Reply
reply_to l (request.Answered n true) ended = reply.Done (record { lane = l; number = n })
reply_to l (request.Answered n false) ended = reply.Failed n
reply_to l _ true = reply.None
reply_to l _ false = reply.Open

-- it goes on after what is done, unless the entry of that may be lost; gives up; or waits
abbrev pub IsHeeded : Reply → Bool → Bool → ℕ → LaneStages → LaneStages → Type 0
IsHeeded (reply.Done answered) lost goes_on l old new =
    (goes_on ≡ not lost)
    × (new ≡ with_stage old l (if lost then Ended else passed (stage_of old l)))
IsHeeded (reply.Failed n) lost goes_on l old new =
    (goes_on ≡ false) × (new ≡ with_stage old l Ended)
IsHeeded reply.None lost goes_on l old new = (goes_on ≡ false) × (new ≡ with_stage old l Ended)
IsHeeded reply.Open lost goes_on l old new = (goes_on ≡ false) × (new ≡ old)

abbrev pub IsOf : ℕ → ℕ → Kept → Type 0
IsOf l n kept = (kept.lane ≡ l) × (kept.number ≡ n)

-- an answer to what was asked; a failure stops the run
abbrev pub desks_given : Desks → ℕ → ℕ → Bool → Desks
desks_given d l n true = posted d l n true
desks_given d l n false =
    if is_open_in (request_at d l) n then stopped (posted d l n false) else posted d l n false

-- all else that is heard stops the run, but for a blank line
abbrev pub desks_behind : Desks → Heard → Desks
desks_behind d (Line (answer.Done l n)) = desks_given d l n true
desks_behind d (Line (answer.Failed l n)) = desks_given d l n false
desks_behind d (Line answer.Nothing) = d
desks_behind d (Line answer.Stop) = stopped d
desks_behind d (Line answer.Bad) = stopped d
desks_behind d End = stopped d

abbrev pub is_heard : Desks → Heard → Bool
is_heard d (Line (answer.Done l n)) = is_open_in (request_at d l) n
is_heard d (Line (answer.Failed l n)) = is_open_in (request_at d l) n
is_heard d _ = true

-- its line is written whole, nothing has failed, and all stays, even if the machine goes down
abbrev pub IsKept : SinkState → SinkState → Bool → Noted → Type 0
IsKept old new kept e =
    IsWritten old new (noted_text e) × (new.failed ≡ false) × (kept ≡ true)

abbrev pub may_lose : SinkState → Bool → Bool
may_lose new kept = new.failed || not kept

-- the journal keeps the entry, or may lose what it has taken
abbrev pub IsNotedOrLost : SinkState → SinkState → Bool → Noted → Type 0
IsNotedOrLost old new kept e = (may_lose new kept ≡ true) ⊎ IsKept old new kept e
