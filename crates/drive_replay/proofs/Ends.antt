-- One more line of a journal that may have its end.
use Rattle.std.proofs.Common.{◌≡◌, ℕ, List, [], ◌∷◌, Option, Some, None, refl, sym, ap, ◌∙◌}
use Rattle.std.specs.Prelude.{is_some, if◌then◌else◌}
use Rattle.drive_journal.specs.Entries.{next_of, next_run, unended}
use Rattle.drive_replay.specs.Following.{end_by}

-- the line is not the end of a journal
pub unended_next : (line : List ℕ) (lines : List (List ℕ)) → end_by lines line ≡ None
    → unended (line ∷ lines) ≡ line ∷ unended lines
unended_next line [] none = rw none refl
unended_next line (next ∷ lines) none = refl

pub next_run_later : (line : List ℕ) (lines : List (List ℕ)) → end_by lines line ≡ None
    → next_run (line ∷ lines) ≡ next_run lines
next_run_later line [] none = none
next_run_later line (next ∷ lines) none = refl

-- it is
pub unended_last : (line run : List ℕ) (lines : List (List ℕ)) → end_by lines line ≡ Some run
    → unended (line ∷ lines) ≡ []
unended_last line run [] is = rw is refl
unended_last line run (next ∷ lines) is = absurd (cc)

pub next_run_last : (line run : List ℕ) (lines : List (List ℕ)) → end_by lines line ≡ Some run
    → next_run (line ∷ lines) ≡ Some run
next_run_last line run [] is = is
next_run_last line run (next ∷ lines) is = absurd (cc)

pub ruleset ends = (unended_next, next_run_later, unended_last, next_run_last)
