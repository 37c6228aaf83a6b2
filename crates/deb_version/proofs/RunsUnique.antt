-- A part has no other runs than its own.
use Rattle.std.proofs.Common.{◌≡◌, ℕ, Bool, true, not, ◌||◌, List, [], ◌∷◌, ◌++◌, refl, sym, ap, ◌∙◌, append_assoc}
use Rattle.std.specs.List.{list_all, flat_map}
use Rattle.std.proofs.lemmas.Bool.{and_parts, not-true}
use Rattle.std.proofs.lemmas.List.{append-nil}
use Rattle.deb_text.specs.Common.{is_digit, is_nil}
use Rattle.deb_version.specs.Order.{Run, digit_before, other_before, runs_of}
use Rattle.deb_version.specs.Runs.{is_other}
use Rattle.deb_version.specs.Laws.{CutsIntoRuns, all_but_first, all_but_last}
use Rattle.deb_version.proofs.RunLaws.{runs_of-nil, runs_of-digit, runs_of-other}
use Rattle.deb_version.proofs.RunCuts.{are_runs}

abbrev has_word : Run → Bool
has_word run = not (is_nil run.word)

abbrev has_digits : Run → Bool
has_digits run = not (is_nil run.digits)

abbrev has_bytes : Run → Bool
has_bytes run = not (is_nil (run.word ++ run.digits))

-- ---- digits

-- in front of runs with words, digits are a run of their own
abbrev put_digits : List ℕ → List Run → List Run
put_digits [] runs = runs
put_digits (d ∷ ds) runs = record { word = []; digits = d ∷ ds } ∷ runs

digit_before_word : (d : ℕ) (word digits : List ℕ) (runs : List Run) → not (is_nil word) ≡ true
    → digit_before d (record { word = word; digits = digits } ∷ runs)
    ≡ put_digits (d ∷ []) (record { word = word; digits = digits } ∷ runs)
digit_before_word d [] digits runs some = absurd cc
digit_before_word d (c ∷ cs) digits runs some = refl

digit_before-put : (d : ℕ) (runs : List Run) → list_all has_word runs ≡ true
    → digit_before d runs ≡ put_digits (d ∷ []) runs
digit_before-put d [] words = refl
digit_before-put d (run ∷ runs) words =
    digit_before_word d run.word run.digits runs
    (and_parts (has_word run) (list_all has_word runs) words).0

runs_of-digits : (digits rest : List ℕ) (runs : List Run) → list_all is_digit digits ≡ true
    → list_all has_word runs ≡ true → runs_of rest ≡ runs
    → runs_of (digits ++ rest) ≡ put_digits digits runs
runs_of-digits [] rest runs are words e = e
runs_of-digits (d ∷ []) rest runs are words e =
    runs_of-digit d rest (and_parts (is_digit d) true are).0
    ∙ (ap (digit_before d) e ∙ digit_before-put d runs words)
runs_of-digits (d ∷ c ∷ ds) rest runs are words e =
    let parts = and_parts (is_digit d) (list_all is_digit (c ∷ ds)) are in
    runs_of-digit d ((c ∷ ds) ++ rest) parts.0
    ∙ ap (digit_before d) (runs_of-digits (c ∷ ds) rest runs parts.1 words e)

-- ---- words

abbrev put_word : List ℕ → List Run → List Run
put_word [] runs = runs
put_word (c ∷ cs) runs = other_before c (put_word cs runs)

runs_of-word : (word rest : List ℕ) (runs : List Run) → list_all is_other word ≡ true
    → runs_of rest ≡ runs → runs_of (word ++ rest) ≡ put_word word runs
runs_of-word [] rest runs are e = e
runs_of-word (c ∷ cs) rest runs are e =
    let parts = and_parts (is_other c) (list_all is_other cs) are in
    runs_of-other c (cs ++ rest) (not-true (is_digit c) parts.0)
    ∙ ap (other_before c) (runs_of-word cs rest runs parts.1 e)

put_word-run : (word after digits : List ℕ) (runs : List Run)
    → put_word word (record { word = after; digits = digits } ∷ runs)
    ≡ record { word = word ++ after; digits = digits } ∷ runs
put_word-run [] after digits runs = refl
put_word-run (c ∷ cs) after digits runs = ap (other_before c) (put_word-run cs after digits runs)

put_word-nil : (c : ℕ) (cs : List ℕ)
    → put_word (c ∷ cs) [] ≡ record { word = c ∷ cs; digits = [] } ∷ []
put_word-nil c [] = refl
put_word-nil c (d ∷ ds) = ap (other_before c) (put_word-nil d ds)

-- ---- runs

-- a word and digits are a run, unless both are empty or digits are missing in front of a run
put_both : (word digits : List ℕ) (runs : List Run) → (is_nil runs || not (is_nil digits)) ≡ true
    → not (is_nil (word ++ digits)) ≡ true
    → put_word word (put_digits digits runs) ≡ record { word = word; digits = digits } ∷ runs
put_both [] [] runs long some = absurd cc
put_both [] (d ∷ ds) runs long some = refl
put_both (c ∷ cs) [] [] long some = put_word-nil c cs
put_both (c ∷ cs) [] (run ∷ runs) long some = absurd cc
put_both (c ∷ cs) (d ∷ ds) runs long some =
    put_word-run (c ∷ cs) [] (d ∷ ds) runs
    ∙ ap (λ (word : List ℕ). record { word = word; digits = d ∷ ds } ∷ runs) (append-nil (c ∷ cs))

all_but_first-tail : (runs : List Run) → list_all has_word runs ≡ true
    → all_but_first has_word runs ≡ true
all_but_first-tail [] words = refl
all_but_first-tail (run ∷ runs) words = (and_parts (has_word run) (list_all has_word runs) words).1

runs_of-whole : (runs : List Run) → list_all (λ run. list_all is_other run.word) runs ≡ true
    → list_all (λ run. list_all is_digit run.digits) runs ≡ true
    → all_but_first has_word runs ≡ true → all_but_last has_digits runs ≡ true
    → list_all has_bytes runs ≡ true
    → runs_of (flat_map (λ run. run.word ++ run.digits) runs) ≡ runs
runs_of-whole [] words digits later long some = runs_of-nil
runs_of-whole (run ∷ runs) words digits later long some =
    let rest = flat_map (λ (r : Run). r.word ++ r.digits) runs in
    let word_parts = and_parts (list_all is_other run.word) _ words in
    let digit_parts = and_parts (list_all is_digit run.digits) _ digits in
    let long_parts = and_parts (is_nil runs || has_digits run) _ long in
    let some_parts = and_parts (has_bytes run) _ some in
    let behind =
    runs_of-whole runs word_parts.1 digit_parts.1 (all_but_first-tail runs later)
    long_parts.1 some_parts.1 in
    ap runs_of (append_assoc run.word run.digits rest)
    ∙ (runs_of-word run.word (run.digits ++ rest) (put_digits run.digits runs) word_parts.0
    (runs_of-digits run.digits rest runs digit_parts.0 later behind)
    ∙ put_both run.word run.digits runs long_parts.0 some_parts.0)

pub cuts_into_runs : CutsIntoRuns
cuts_into_runs part runs = (
  λ are. sym (runs_of-whole runs
      are.words are.digits are.longest_digits are.longest_words are.none_empty)
      ∙ ap runs_of are.whole,
  λ e. rw e (are_runs part),
)
