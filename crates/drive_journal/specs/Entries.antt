-- The entries of a journal, as text and as they are read. The project's own format.
--
--   Note, Noted         what an entry says; of which instruction of which lane
--   head_of, noted_text the line of an entry, without what it says more; whole, with its end
--   noted_of            what a line says, if it is an entry
--   time_text, time_of  the line that tells when the next entry was written; what a line tells of that
--   end_text, next_of   the line that ends a journal; the run that goes on from there
--   next_run, unended   the same of all lines of a journal; its lines without that one
--   whole               the lines of a text that have their ends
use Rattle.std.specs.Prelude.{ℕ, Bool, true, false, List, [], ◌∷◌, ◌++◌, codes, Option, Some, None, is_some, if◌then◌else◌}
use Rattle.std.specs.List.{concat, list_any}
use Rattle.std.specs.Fmt.{decimal}
use Rattle.std.specs.Str.{bytes_eq}
use Rattle.deb_text.specs.Common.{is_newline, number_at, words}

-- it is asked for; the unpack has picked this version of this name; the `when` has taken the first
-- branch, or the second; it is done; it has failed; what has failed is asked for once more
pub data Note : Type 0 where
  IsAsked : Note
  HasPicked : List ℕ → List ℕ → Note
  HasBranched : Bool → Note
  IsDone : Note
  HasFailed : Note
  IsAskedAgain : Note

-- of the instruction of this number of the lane of this name
pub record Noted : Type 0 where
  pub lane : List ℕ
  pub number : ℕ
  pub note : Note

-- ---- the line of an entry

abbrev pub verb_of : Note → List ℕ
verb_of IsAsked = codes "ask"
verb_of (HasPicked name version) = codes "pick"
verb_of (HasBranched first) = codes "branch"
verb_of IsDone = codes "done"
verb_of HasFailed = codes "failed"
verb_of IsAskedAgain = codes "again"

abbrev pub branch_word : Bool → List ℕ
branch_word true = codes "first"
branch_word false = codes "second"

-- what an entry says more
abbrev pub more_of : Note → List ℕ
more_of (HasPicked name version) = concat (codes " " ∷ name ∷ codes " " ∷ version ∷ [])
more_of (HasBranched first) = codes " " ++ branch_word first
more_of _ = []

-- the verb, the lane, the number
abbrev pub head_of : Noted → List ℕ
head_of e = concat (verb_of e.note ∷ codes " " ∷ e.lane ∷ codes " " ∷ decimal e.number ∷ [])

abbrev pub noted_text : Noted → List ℕ
noted_text e = concat (head_of e ∷ more_of e.note ∷ codes "\n" ∷ [])

-- ---- what a line says

abbrev pub branch_by : List ℕ → Option Note
branch_by word =
    if bytes_eq word (codes "first") then Some (HasBranched true)
    else if bytes_eq word (codes "second") then Some (HasBranched false)
    else None

-- what this verb says with these words behind the number
abbrev pub note_by : List ℕ → List (List ℕ) → Option Note
note_by verb [] =
    if bytes_eq verb (codes "ask") then Some IsAsked
    else if bytes_eq verb (codes "done") then Some IsDone
    else if bytes_eq verb (codes "failed") then Some HasFailed
    else if bytes_eq verb (codes "again") then Some IsAskedAgain
    else None
note_by verb (word ∷ []) = if bytes_eq verb (codes "branch") then branch_by word else None
note_by verb (name ∷ version ∷ []) =
    if bytes_eq verb (codes "pick") then Some (HasPicked name version) else None
note_by verb _ = None

abbrev pub noted_by : List ℕ → Option ℕ → Option Note → Option Noted
noted_by lane (Some n) (Some note) = Some (record { lane = lane; number = n; note = note })
noted_by lane _ _ = None

abbrev pub noted_at : List (List ℕ) → Option Noted
noted_at (verb ∷ lane ∷ number ∷ more) = noted_by lane (number_at number) (note_by verb more)
noted_at _ = None

unfoldable pub noted_of : List ℕ → Option Noted
noted_of line = noted_at (words line)

-- ---- lines of no lane

-- so many seconds after the run's beginning the next entry was written
abbrev pub time_text : ℕ → List ℕ
time_text n = concat (codes "at " ∷ decimal n ∷ codes "\n" ∷ [])

abbrev pub time_by : List ℕ → List ℕ → Option ℕ
time_by verb number = if bytes_eq verb (codes "at") then number_at number else None

abbrev pub time_at : List (List ℕ) → Option ℕ
time_at (verb ∷ number ∷ []) = time_by verb number
time_at _ = None

unfoldable pub time_of : List ℕ → Option ℕ
time_of line = time_at (words line)

-- the run of this name goes on from here
abbrev pub end_text : List ℕ → List ℕ
end_text run = concat (codes "end " ∷ run ∷ codes "\n" ∷ [])

abbrev pub next_at : List (List ℕ) → Option (List ℕ)
next_at (verb ∷ run ∷ []) = if bytes_eq verb (codes "end") then Some run else None
next_at _ = None

unfoldable pub next_of : List ℕ → Option (List ℕ)
next_of line = next_at (words line)

-- the last line of all names it
abbrev pub next_run : List (List ℕ) → Option (List ℕ)
next_run [] = None
next_run (line ∷ []) = next_of line
next_run (line ∷ next ∷ lines) = next_run (next ∷ lines)

abbrev pub unended : List (List ℕ) → List (List ℕ)
unended [] = []
unended (line ∷ []) = if is_some (next_of line) then [] else line ∷ []
unended (line ∷ next ∷ lines) = line ∷ unended (next ∷ lines)

-- ---- a text that may be torn at its end

-- what stands up to the last newline, with it
abbrev pub whole : List ℕ → List ℕ
whole [] = []
whole (b ∷ bs) = if list_any is_newline (b ∷ bs) then b ∷ whole bs else []
