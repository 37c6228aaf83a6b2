-- Schedules as the command line has them. The project's own rules: numbers of lanes in decimal,
-- joined by commas; the empty text is the empty schedule. A file of lanes has them by number or
-- name.
--
--   lane_at item          the number of a lane
--   schedule_of text      the numbers of a schedule, if the text is one
--   spaced b              a byte of a file of lanes, its commas as spaces
use Rattle.std.specs.Prelude.{ℕ, Bool, not, ◌&&◌, ◌==◌, nat_le, List, [], Option, Some, None, Result, Ok, Err, if◌then◌else◌}
use Rattle.std.specs.List.{list_all, slice_split}
use Rattle.deb_text.specs.Common.{is_byte, is_digit, is_nil, number, traverse}
use Rattle.command_line.specs.declared.schedule.ScheduleFault.{ScheduleFault}
use Rattle.command_line.specs.declared.schedule.ScheduleFault.TheVariants.{BadSchedule, Memory}
use Rattle.command_line.specs.declared.schedule.TheConstants.{MOST_LANE}

-- one digit or more, whose number is not over the greatest of a lane
abbrev pub is_lane : List ℕ → Bool
is_lane item = not (is_nil item) && list_all is_digit item && nat_le (number item) MOST_LANE

abbrev pub lane_at : List ℕ → Result ℕ ScheduleFault
lane_at item = if is_lane item then Ok (number item) else Err BadSchedule

-- none, or those that stand between the commas
abbrev pub schedule_of : List ℕ → Result (List ℕ) ScheduleFault
schedule_of text = if is_nil text then Ok [] else traverse lane_at (slice_split (is_byte 44) text)

-- a comma is as good as a space
abbrev pub spaced : ℕ → ℕ
spaced b = if b == 44 then 32 else b

-- the fault, unless memory ran out
abbrev pub refusal_of : ScheduleFault → Option ScheduleFault
refusal_of BadSchedule = Some BadSchedule
refusal_of Memory = None
