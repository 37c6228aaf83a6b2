-- What is written is read again, at whatever byte the machine went down.
--
--   IsWritable        an entry whose words are words
--   IsReadAgain       its line says that entry
--   IsTimeReadAgain, IsEndReadAgain   the same of a time, and of the line that ends a journal
--   TornIsFirstPart   the whole lines of a text that was cut off anywhere
use Rattle.std.specs.Prelude.{◌≡◌, ℕ, ◌<◌, ◌^◌, true, List, [], ◌∷◌, ◌++◌, take, Some}
use Rattle.std.specs.List.{list_all}
use Rattle.deb_text.specs.Common.{lines_of, is_run}
use Rattle.drive_journal.specs.Entries.{Note, HasPicked, Noted, noted_text, noted_of, time_text, time_of, end_text, next_of, whole}

-- the words of what an entry says, beside its own
abbrev pub words_in : Note → List (List ℕ)
words_in (HasPicked name version) = name ∷ version ∷ []
words_in _ = []

pub record IsWritable (e : Noted) : Type 0 where
  pub lane : is_run e.lane ≡ true
  pub words : list_all is_run (words_in e.note) ≡ true
  pub small : e.number < 10 ^ 15

-- ahead of any other lines its line is the first, and says the entry
abbrev pub IsReadAgain : Noted → Type 0
IsReadAgain e = IsWritable e → (rest : List ℕ)
    → (line : List ℕ) × (lines_of (noted_text e ++ rest) ≡ line ∷ lines_of rest)
    × (noted_of line ≡ Some e)

abbrev pub IsTimeReadAgain : ℕ → Type 0
IsTimeReadAgain n = n < 10 ^ 15 → (rest : List ℕ)
    → (line : List ℕ) × (lines_of (time_text n ++ rest) ≡ line ∷ lines_of rest)
    × (time_of line ≡ Some n)

abbrev pub IsEndReadAgain : List ℕ → Type 0
IsEndReadAgain run = is_run run ≡ true → (rest : List ℕ)
    → (line : List ℕ) × (lines_of (end_text run ++ rest) ≡ line ∷ lines_of rest)
    × (next_of line ≡ Some run)

-- they are the first of its whole lines
abbrev pub TornIsFirstPart : List ℕ → Type 0
TornIsFirstPart text = (n : ℕ) → (lost : List (List ℕ))
    × (lines_of (whole text) ≡ lines_of (whole (take n text)) ++ lost)
