-- The line of an entry says that entry.
use Rattle.std.proofs.Common.{◌≡◌, ℕ, true, false, List, [], ◌∷◌, ◌++◌, Some, refl, ap, ◌∙◌, append_assoc, append-nil}
use Rattle.std.specs.Fmt.{decimal}
use Rattle.std.specs.List.{list_all}
use Rattle.std.proofs.lemmas.Bool.{and_from}
use Rattle.std.proofs.lemmas.List.Folds.{list_all-append}
use Rattle.deb_text.specs.Common.{lines_of, number_at, is_run, spaced}
use Rattle.deb_text.proofs.AgainLaws.{is_inner, line-again, words-again, spaced-line, number-again, number-run, value-again}
use Rattle.drive_journal.specs.Entries.{Note, IsAsked, HasPicked, HasBranched, IsDone, HasFailed, IsAskedAgain, Noted, verb_of, branch_word, more_of, noted_text, note_by, noted_by, noted_at, noted_of}
use Rattle.drive_journal.specs.Laws.{words_in, IsWritable}

-- the words behind the number
abbrev tail_of : Note → List (List ℕ)
tail_of (HasBranched first) = branch_word first ∷ []
tail_of note = words_in note

more_is : (note : Note) → more_of note ≡ spaced (tail_of note)
more_is IsAsked = refl
more_is (HasPicked name version) = refl
more_is (HasBranched true) = refl
more_is (HasBranched false) = refl
more_is IsDone = refl
more_is HasFailed = refl
more_is IsAskedAgain = refl

note_again : (note : Note) → note_by (verb_of note) (tail_of note) ≡ Some note
note_again IsAsked = refl
note_again (HasPicked name version) = refl
note_again (HasBranched true) = refl
note_again (HasBranched false) = refl
note_again IsDone = refl
note_again HasFailed = refl
note_again IsAskedAgain = refl

verb_run : (note : Note) → is_run (verb_of note) ≡ true
verb_run IsAsked = refl
verb_run (HasPicked name version) = refl
verb_run (HasBranched first) = refl
verb_run IsDone = refl
verb_run HasFailed = refl
verb_run IsAskedAgain = refl

verb_inner : (note : Note) → list_all is_inner (verb_of note) ≡ true
verb_inner IsAsked = refl
verb_inner (HasPicked name version) = refl
verb_inner (HasBranched first) = refl
verb_inner IsDone = refl
verb_inner HasFailed = refl
verb_inner IsAskedAgain = refl

tail_runs : (note : Note) → list_all is_run (words_in note) ≡ true
    → list_all is_run (tail_of note) ≡ true
tail_runs IsAsked are = refl
tail_runs (HasPicked name version) are = are
tail_runs (HasBranched true) are = refl
tail_runs (HasBranched false) are = refl
tail_runs IsDone are = refl
tail_runs HasFailed are = refl
tail_runs IsAskedAgain are = refl

-- the line's end parts it from what stands behind it
shift : (a b c m rest : List ℕ)
    → ((a ++ 32 ∷ (b ++ 32 ∷ (c ++ []))) ++ (m ++ 10 ∷ [])) ++ rest
    ≡ (a ++ 32 ∷ (b ++ 32 ∷ (c ++ m))) ++ 10 ∷ rest
shift a b c m rest =
    rw (
      append-nil c,
      append_assoc (a ++ 32 ∷ (b ++ 32 ∷ c)) (m ++ 10 ∷ []) rest,
      append_assoc m (10 ∷ []) rest,
      append_assoc a (32 ∷ (b ++ 32 ∷ c)) (m ++ 10 ∷ rest),
      append_assoc b (32 ∷ c) (m ++ 10 ∷ rest),
      append_assoc a (32 ∷ (b ++ 32 ∷ (c ++ m))) (10 ∷ rest),
      append_assoc b (32 ∷ (c ++ m)) (10 ∷ rest),
      append_assoc c m (10 ∷ rest),
    ) refl

module _ (e : Noted) (is : IsWritable e) where
  abbrev behind : List (List ℕ)
  behind = e.lane ∷ decimal e.number ∷ tail_of e.note

  abbrev line : List ℕ
  line = verb_of e.note ++ spaced behind

  number_is_run : is_run (decimal e.number) ≡ true
  number_is_run = number-run (decimal e.number) (number-again e.number is.small)

  runs : list_all is_run behind ≡ true
  runs =
      and_from (is_run e.lane) _ is.lane
      (and_from (is_run (decimal e.number)) _ number_is_run (tail_runs e.note is.words))

  inner : list_all is_inner line ≡ true
  inner =
      list_all-append is_inner (verb_of e.note) (spaced behind)
      ∙ and_from (list_all is_inner (verb_of e.note)) (list_all is_inner (spaced behind))
      (verb_inner e.note) (spaced-line behind runs)

  number_is : number_at (decimal e.number) ≡ Some e.number
  number_is = rw (number-again e.number is.small, value-again e.number is.small) refl

  says : noted_of line ≡ Some e
  unfolding noted_of
  says =
      ap noted_at (words-again (verb_of e.note) behind (verb_run e.note) runs)
      ∙ (ap (λ n. noted_by e.lane n (note_by (verb_of e.note) (tail_of e.note))) number_is
      ∙ ap (λ n. noted_by e.lane (Some e.number) n) (note_again e.note))

  pub entry_is_read_again : (rest : List ℕ)
      → (l : List ℕ) × (lines_of (noted_text e ++ rest) ≡ l ∷ lines_of rest)
      × (noted_of l ≡ Some e)
  entry_is_read_again rest = (
    line,
    ap lines_of (shift (verb_of e.note) e.lane (decimal e.number) (more_of e.note) rest)
        ∙ (ap (λ m. lines_of ((verb_of e.note ++ 32 ∷ (e.lane ++ 32 ∷ (decimal e.number ++ m)))
        ++ 10 ∷ rest)) (more_is e.note)
        ∙ line-again line rest inner),
    says,
  )
