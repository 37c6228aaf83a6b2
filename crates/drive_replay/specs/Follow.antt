-- How a journal is followed by the core of a plan. Parameters: x a life so far, l the number of a
-- lane, n the number of an instruction, counted from 1; 0 stands for the lane's chroot.
--
--   Life                     a farm at work, and what is noted by now
--   asked_for, picked, branched, finished, failed, asked_again   the life behind an `ask`, a `pick`, a
--                            `branch`, a `done`, a `failed`, an `again`
--   timed x n                the life behind an `at`
--   followed x e             the life behind an entry, if the core can follow it
--   followed_by n x lines    the life behind lines, the first of which has this number; or the
--                            number of the first that the core cannot follow
use Rattle.std.specs.Prelude.{ℕ, suc, ◌-◌, Bool, true, false, ◌&&◌, ◌==◌, nat_lt, List, [], ◌∷◌, length, Option, Some, None, is_none, Result, Ok, ok_or, if◌then◌else◌}
use Rattle.std.specs.Option.{option_map, option_and_then}
use Rattle.std.specs.Str.{bytes_eq}
use Rattle.chroot_state.specs.Slots.{bit_of}
use Rattle.deb_text.specs.Steps.{◌>>=◌}
use Rattle.drive_journal.specs.Entries.{Note, IsAsked, HasPicked, HasBranched, IsDone, HasFailed, IsAskedAgain, Noted, noted_of, time_of}
use Rattle.drive_replay.specs.LaneNotes.{LaneNotes, note_at, asked_at, with_again, with_ask, with_pick, with_branch, with_done, with_failure, with_rank, with_time}
use Rattle.drive_replay.specs.Onward.{done_in, here, moved, turned, stood}
use Rattle.drive_protocol.specs.AnswerText.{named_from}
use Rattle.farm_core.specs.Farm.{Farm, chroot_in}
use Rattle.farm_model.specs.Common.{slot, outputs, variant, Universe}
use Rattle.farm_model.specs.declared.types.Variant.{Variant}
use Rattle.plan_reader.specs.Listing.{name_of_number}
use Rattle.plan_reader.specs.Variants.{version_of}
use Rattle.plan_model.specs.Plan.{Lane, instruction_at, lane, next_place, else_place}
use Rattle.plan_model.specs.declared.instructions.Instruction.{Instruction}
use Rattle.plan_model.specs.declared.instructions.Instruction.TheVariants.{Unpack, Configure, Deconfigure, Remove, Build, Publish, When}

pub record Life : Type 0 where
  pub farm : Farm
  pub notes : LaneNotes

abbrev pub life : Farm → LaneNotes → Life
life f notes = record { farm = f; notes = notes }

-- the lane stands at the instruction, in a chroot that is there, and has nothing asked for
abbrev pub ahead : Life → ℕ → ℕ → Option Farm
ahead x l n =
    if (note_at x.notes l 0).done && is_none (asked_at x.notes l) then stood x.farm l n else None

-- ---- an `ask`

-- what it may be of: an unpack has its pick, a `when` its branch, and a wait is asked of nobody
abbrev pub is_asked : Option Instruction → Bool
is_asked (Some (Configure members)) = true
is_asked (Some (Deconfigure members)) = true
is_asked (Some (Remove members)) = true
is_asked (Some (Build r)) = true
is_asked (Some (Publish r)) = true
is_asked _ = false

-- of a chroot, once
abbrev pub chroot_asked : Life → ℕ → Option Life
chroot_asked x l =
    if (note_at x.notes l 0).asked then None else Some (life x.farm (with_ask x.notes l 0))

abbrev pub here_asked : Life → ℕ → ℕ → Farm → Option Life
here_asked x l n f =
    if is_asked (here f l) then Some (life f (with_ask x.notes l n)) else None

abbrev pub asked_for : Life → ℕ → ℕ → Option Life
asked_for x l n =
    if n == 0 then chroot_asked x l else option_and_then (here_asked x l n) (ahead x l n)

-- ---- a `pick`

abbrev pub unpacked_name : Option Instruction → Option ℕ
unpacked_name (Some (Unpack name wanted)) = Some name
unpacked_name _ = None

-- the variant of a name that the lane's chroot holds
abbrev pub held_bit : Farm → ℕ → ℕ → Option ℕ
held_bit f l name =
    if nat_lt l (length f.plan.lanes) then bit_of (slot (chroot_in f l).slots name) else None

-- the variant has this name and this version
abbrev pub is_spelled : Universe → Variant → List ℕ → List ℕ → Bool
is_spelled u v name version =
    bytes_eq (name_of_number u v.name) name && bytes_eq (version_of u v) version

abbrev pub if_spelled : Life → ℕ → ℕ → List ℕ → List ℕ → Farm → Variant → Option Life
if_spelled x l n name version f v =
    if is_spelled f.universe v name version then Some (life f (with_pick x.notes l n v.bit))
    else None

-- behind the unpack of the name with this number, whose variant has this name and version
abbrev pub unpacked_as : Life → ℕ → ℕ → List ℕ → List ℕ → Farm → ℕ → Option Life
unpacked_as x l n name version f number =
    option_and_then (λ g. option_and_then
    (λ b. if_spelled x l n name version g (variant number b)) (held_bit g l number)) (moved f l)

abbrev pub picked : Life → ℕ → ℕ → List ℕ → List ℕ → Option Life
picked x l n name version =
    option_and_then (λ f. option_and_then (unpacked_as x l n name version f)
    (unpacked_name (here f l))) (ahead x l n)

-- ---- a `branch`

-- where a lane goes from a `when` at a place
abbrev pub branch_place : Lane → ℕ → Bool → ℕ
branch_place of place first = if first then next_place of place else else_place of place

abbrev pub when_at : Lane → ℕ → Bool → Option Instruction → Option ℕ
when_at of place first (Some (When name wanted)) = Some (branch_place of place first)
when_at of place first _ = None

-- where the lane goes from the `when` that it stands at
abbrev pub when_place : Farm → ℕ → Bool → Option ℕ
when_place f l first = when_at (lane f.plan.lanes l) (done_in f l) first (here f l)

abbrev pub if_there : Life → ℕ → ℕ → Bool → ℕ → Farm → Option Life
if_there x l n first place f =
    if done_in f l == place then Some (life f (with_branch x.notes l n first)) else None

abbrev pub gone_into : Life → ℕ → ℕ → Bool → Farm → Option Life
gone_into x l n first f =
    option_and_then (λ place. option_and_then (if_there x l n first place) (moved f l))
    (when_place f l first)

abbrev pub branched : Life → ℕ → ℕ → Bool → Option Life
branched x l n first = option_and_then (gone_into x l n first) (ahead x l n)

-- ---- a `done`

abbrev pub is_open : Option ℕ → ℕ → Bool
is_open None n = false
is_open (Some k) n = k == n

-- behind all outputs of a recipe
abbrev pub all_made : Life → ℕ → ℕ → ℕ → Option Life
all_made x l n r =
    option_map (λ f. life f (with_rank (with_done x.notes l n) l n))
    (turned (length (outputs x.farm.universe r)) x.farm l)

-- the lane behind its instruction; an unpack was taken with its pick
abbrev pub carried_out : Life → ℕ → ℕ → Instruction → Option Life
carried_out x l n (Unpack name wanted) = Some (life x.farm (with_done x.notes l n))
carried_out x l n (Publish r) = all_made x l n r
carried_out x l n other = option_map (λ f. life f (with_done x.notes l n)) (moved x.farm l)

abbrev pub finished_at : Life → ℕ → ℕ → Option Life
finished_at x l n =
    if n == 0 then Some (life x.farm (with_done x.notes l 0))
    else option_and_then (carried_out x l n) (instruction_at x.farm.plan.lanes l (n - 1))

abbrev pub finished : Life → ℕ → ℕ → Option Life
finished x l n = if is_open (asked_at x.notes l) n then finished_at x l n else None

-- ---- what is open

-- it has failed, and stays open
abbrev pub failed : Life → ℕ → ℕ → Option Life
failed x l n =
    if is_open (asked_at x.notes l) n then Some (life x.farm (with_failure x.notes l n)) else None

abbrev pub asked_again : Life → ℕ → ℕ → Option Life
asked_again x l n =
    if is_open (asked_at x.notes l) n then Some (life x.farm (with_again x.notes l n)) else None

-- ---- entries

abbrev pub followed_note : Life → ℕ → ℕ → Note → Option Life
followed_note x l n IsAsked = asked_for x l n
followed_note x l n (HasPicked name version) = picked x l n name version
followed_note x l n (HasBranched first) = branched x l n first
followed_note x l n IsDone = finished x l n
followed_note x l n HasFailed = failed x l n
followed_note x l n IsAskedAgain = asked_again x l n

unfoldable pub followed : Life → Noted → Option Life
followed x e =
    option_and_then (λ l. followed_note x l e.number e.note)
    (named_from e.lane 0 x.farm.plan.lanes)

abbrev pub timed : Life → ℕ → Life
timed x seconds = life x.farm (with_time x.notes seconds)

-- a line that tells a time is no entry
abbrev pub line_by : Life → Option ℕ → Option Noted → Option Life
line_by x (Some seconds) entry = Some (timed x seconds)
line_by x None entry = option_and_then (followed x) entry

abbrev pub line_followed : Life → List ℕ → Option Life
line_followed x line = line_by x (time_of line) (noted_of line)

abbrev pub followed_by : ℕ → Life → List (List ℕ) → Result Life ℕ
followed_by n x [] = Ok x
followed_by n x (line ∷ lines) =
    ok_or (line_followed x line) n >>= λ y. followed_by (suc n) y lines
