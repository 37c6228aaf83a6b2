-- The lines of no lane say what was written.
use Rattle.std.proofs.Common.{◌≡◌, ℕ, ◌<◌, true, List, [], ◌∷◌, ◌++◌, Some, codes, refl, ap, ◌∙◌, append_assoc, append-nil}
use Rattle.std.specs.Prelude.{◌^◌}
use Rattle.std.specs.Fmt.{decimal}
use Rattle.std.specs.List.{list_all}
use Rattle.std.proofs.lemmas.Bool.{and_from}
use Rattle.std.proofs.lemmas.List.Folds.{list_all-append}
use Rattle.deb_text.specs.Common.{lines_of, is_run, spaced}
use Rattle.deb_text.proofs.AgainLaws.{is_inner, line-again, words-again, spaced-line, number-again, number-run, value-again}
use Rattle.drive_journal.specs.Entries.{next_at, next_of, time_at, time_of}
use Rattle.drive_journal.specs.Laws.{IsEndReadAgain, IsTimeReadAgain}

shift : (verb word rest : List ℕ)
    → (verb ++ 32 ∷ (word ++ 10 ∷ [])) ++ rest ≡ (verb ++ 32 ∷ (word ++ [])) ++ 10 ∷ rest
shift verb word rest =
    rw (
      append-nil word,
      append_assoc verb (32 ∷ (word ++ 10 ∷ [])) rest,
      append_assoc word (10 ∷ []) rest,
      append_assoc verb (32 ∷ word) (10 ∷ rest),
    ) refl

-- a verb and a word
module _ (verb word : List ℕ) (verb_inner : list_all is_inner verb ≡ true)
    (run : is_run word ≡ true) where
  runs : list_all is_run (word ∷ []) ≡ true
  runs = and_from (is_run word) true run refl

  inner : list_all is_inner (verb ++ spaced (word ∷ [])) ≡ true
  inner =
      list_all-append is_inner verb (spaced (word ∷ []))
      ∙ and_from (list_all is_inner verb) (list_all is_inner (spaced (word ∷ []))) verb_inner
      (spaced-line (word ∷ []) runs)

  pair_line : (rest : List ℕ) → lines_of ((verb ++ 32 ∷ (word ++ 10 ∷ [])) ++ rest)
      ≡ (verb ++ spaced (word ∷ [])) ∷ lines_of rest
  pair_line rest =
      ap lines_of (shift verb word rest) ∙ line-again (verb ++ spaced (word ∷ [])) rest inner

module _ (n : ℕ) (small : n < 10 ^ 15) where
  number_is_run : is_run (decimal n) ≡ true
  number_is_run = number-run (decimal n) (number-again n small)

  says_time : time_of (codes "at" ++ spaced (decimal n ∷ [])) ≡ Some n
  unfolding time_of
  says_time =
      ap time_at (words-again (codes "at") (decimal n ∷ []) refl
      (runs (codes "at") (decimal n) refl number_is_run))
      ∙ rw (number-again n small, value-again n small) refl

pub time_is_read_again : (n : ℕ) → IsTimeReadAgain n
time_is_read_again n small rest = (
  codes "at" ++ spaced (decimal n ∷ []),
  pair_line (codes "at") (decimal n) refl (number_is_run n small) rest,
  says_time n small,
)

says_end : (run : List ℕ) → is_run run ≡ true
    → next_of (codes "end" ++ spaced (run ∷ [])) ≡ Some run
unfolding next_of
says_end run is =
    ap next_at (words-again (codes "end") (run ∷ []) refl (runs (codes "end") run refl is))

pub end_is_read_again : (run : List ℕ) → IsEndReadAgain run
end_is_read_again run is rest = (
  codes "end" ++ spaced (run ∷ []),
  pair_line (codes "end") run refl is rest,
  says_end run is,
)
