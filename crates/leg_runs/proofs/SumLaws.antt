-- The lines of a journal, but for the one that ends it.
use Rattle.std.proofs.Common.{◌≡◌, ℕ, true, false, List, [], ◌∷◌, refl, ap}
use Rattle.std.specs.Prelude.{is_some, if◌then◌else◌}
use Rattle.std.proofs.lemmas.Bool.{false≢true}
use Rattle.drive_journal.specs.Entries.{unended}
use Rattle.drive_replay.specs.Following.{end_by}

-- a line that does not end it
pub sum_next : (line : List ℕ) (lines : List (List ℕ)) → is_some (end_by lines line) ≡ false
    → unended (line ∷ lines) ≡ line ∷ unended lines
sum_next line [] none = ap (λ x. if x then [] else line ∷ []) none
sum_next line (next ∷ lines) none = refl

-- the one that does
pub sum_last : (line : List ℕ) (lines : List (List ℕ)) → is_some (end_by lines line) ≡ true
    → unended (line ∷ lines) ≡ []
sum_last line [] is = ap (λ x. if x then [] else line ∷ []) is
sum_last line (next ∷ lines) is = absurd (false≢true is)

pub ruleset sums = (sum_next, sum_last)
