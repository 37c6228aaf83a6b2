-- Schedules that stand in a file. The project's own rules: a word of digits alone is the number of
-- a lane of the plan, and any other word the name of one.
--
--   lane_of_word p word  the lane that a word names
--   words_in text        the words of a text, each with its line and its place there
--   turns_of p text      the lanes that a file names, or the first word that names none
use Rattle.std.specs.Prelude.{◌≡◌, ℕ, ◌+◌, nat_lt, List, [], ◌∷◌, ◌++◌, length, map, Option, Some, None, Result, Ok, Err, if◌then◌else◌}
use Rattle.std.specs.List.{list_all}
use Rattle.std.specs.Str.{bytes_eq}
use Rattle.command_line.specs.Schedule.{lane_at, spaced}
use Rattle.command_line.specs.declared.schedule.ScheduleFault.{ScheduleFault}
use Rattle.command_line.specs.declared.schedule.ScheduleFault.TheVariants.{BadSchedule}
use Rattle.deb_text.specs.Common.{is_digit, lines_of, traverse, words}
use Rattle.plan_model.specs.Plan.{Lane, Plan}
use Rattle.farm_answers.specs.declared.fault.OutsideFault.{OutsideFault}
use Rattle.farm_answers.specs.declared.fault.OutsideFault.TheVariants.{OutOfMemory, BadSchedule as NoSchedule}
use Rattle.farm_answers.specs.declared.turns.TurnFault.{TurnFault}
use Rattle.farm_answers.specs.declared.turns.TurnFault.TheVariants.{NoLane, Memory}

-- ---- the lane of a word

-- a number, where the plan has such a lane
abbrev pub in_plan : Plan → Result ℕ ScheduleFault → Result ℕ ScheduleFault
in_plan p (Ok number) = if nat_lt number (length p) then Ok number else Err BadSchedule
in_plan p (Err fault) = Err fault

-- the first of these lanes that has this name; they are numbered from n on
abbrev pub named_from : List ℕ → ℕ → List Lane → Result ℕ ScheduleFault
named_from name n [] = Err BadSchedule
named_from name n (l ∷ ls) = if bytes_eq l.name name then Ok n else named_from name (n + 1) ls

abbrev pub lane_of_word : Plan → List ℕ → Result ℕ ScheduleFault
lane_of_word p word =
    if list_all is_digit word then in_plan p (lane_at word) else named_from word 0 p

-- ---- the words of a file

-- a line, a place in it, both from 1 on, and the word that stands there
abbrev pub PlacedWord : Type 0
PlacedWord = ℕ × ℕ × List ℕ

-- words of a line, the first of them at this place
abbrev pub placed_from : ℕ → ℕ → List (List ℕ) → List PlacedWord
placed_from line place [] = []
placed_from line place (word ∷ ws) = (line, place, word) ∷ placed_from line (place + 1) ws

-- the words of lines, the first of which has this number
abbrev pub words_from : ℕ → List (List ℕ) → List PlacedWord
words_from line [] = []
words_from line (text ∷ ls) = placed_from line 1 (words text) ++ words_from (line + 1) ls

abbrev pub words_in : List ℕ → List PlacedWord
words_in text = words_from 1 (lines_of text)

-- ---- the lanes of a file

abbrev pub lane_or : PlacedWord → Result ℕ ScheduleFault → Result ℕ PlacedWord
lane_or word (Ok lane) = Ok lane
lane_or word (Err fault) = Err word

abbrev pub turn_of : Plan → PlacedWord → Result ℕ PlacedWord
turn_of p word = lane_or word (lane_of_word p word.2)

-- a comma is as good as a space
unfoldable pub turns_of : Plan → List ℕ → Result (List ℕ) PlacedWord
turns_of p text = traverse (turn_of p) (words_in (map spaced text))

-- ---- its faults

-- the word that names none, unless memory ran out
abbrev pub wrong_word : TurnFault → Option PlacedWord
wrong_word (NoLane turn) = Some (turn.line, turn.place, turn.word.now)
wrong_word Memory = None

-- the fault of a file that names other words than lanes
abbrev pub IsTurnsFault : Plan → List ℕ → OutsideFault → Type 0
IsTurnsFault p text (NoSchedule note) = (word : PlacedWord) × (turns_of p text ≡ Err word)
IsTurnsFault p text fault = fault ≡ OutOfMemory
