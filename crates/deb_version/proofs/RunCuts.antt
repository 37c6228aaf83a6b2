-- The runs of a part are what they are said to be.
use Rattle.std.proofs.Common.{◌≡◌, ℕ, true, false, not, ◌||◌, List, [], ◌∷◌, ◌++◌, refl, ap, inl, inr}
use Rattle.std.proofs.lemmas.Bool.{cases_Bool, and_parts, and_from, or_right}
use Rattle.deb_text.specs.Common.{is_digit, is_nil}
use Rattle.deb_version.specs.Order.{Run, digit_before, other_before, runs_of}
use Rattle.deb_version.specs.Laws.{AreRuns}
use Rattle.deb_version.proofs.RunLaws.{runs_of-nil, runs_of-digit, runs_of-other}

-- a digit in front of a first run with this word
digit_onto-kept : (b : ℕ) (part word digits : List ℕ) (runs : List Run)
    → is_digit b ≡ true
    → AreRuns part (record { word = word; digits = digits } ∷ runs)
    → AreRuns (b ∷ part) (digit_before b (record { word = word; digits = digits } ∷ runs))
digit_onto-kept b part [] digits runs is are = record {
  whole = ap (λ (bs : List ℕ). b ∷ bs) are.whole;
  words = are.words;
  digits = rw is are.digits;
  longest_digits = are.longest_digits;
  longest_words = and_from _ _ (or_right (is_nil runs) true refl)
      (and_parts (is_nil runs || not (is_nil digits)) _ are.longest_words).1;
  none_empty = (and_parts (not (is_nil digits)) _ are.none_empty).1;
}
digit_onto-kept b part (c ∷ cs) digits runs is are = record {
  whole = ap (λ (bs : List ℕ). b ∷ bs) are.whole;
  words = are.words;
  digits = rw is are.digits;
  longest_digits = are.longest_digits;
  longest_words = are.longest_words;
  none_empty = are.none_empty;
}

digit-kept : (b : ℕ) (part : List ℕ) (runs : List Run) → is_digit b ≡ true → AreRuns part runs
    → AreRuns (b ∷ part) (digit_before b runs)
digit-kept b part [] is are = record {
  whole = ap (λ (bs : List ℕ). b ∷ bs) are.whole;
  words = refl;
  digits = rw is refl;
  longest_digits = refl;
  longest_words = refl;
  none_empty = refl;
}
digit-kept b part (run ∷ runs) is are = digit_onto-kept b part run.word run.digits runs is are

other-kept : (b : ℕ) (part : List ℕ) (runs : List Run) → is_digit b ≡ false → AreRuns part runs
    → AreRuns (b ∷ part) (other_before b runs)
other-kept b part [] is are = record {
  whole = ap (λ (bs : List ℕ). b ∷ bs) are.whole;
  words = rw is refl;
  digits = refl;
  longest_digits = refl;
  longest_words = refl;
  none_empty = refl;
}
other-kept b part (run ∷ runs) is are = record {
  whole = ap (λ (bs : List ℕ). b ∷ bs) are.whole;
  words = rw is are.words;
  digits = are.digits;
  longest_digits = are.longest_digits;
  longest_words = are.longest_words;
  none_empty = (and_parts (not (is_nil (run.word ++ run.digits))) _ are.none_empty).1;
}

pub are_runs : (part : List ℕ) → AreRuns part (runs_of part)
are_runs [] =
    rw runs_of-nil record {
      whole = refl;
      words = refl;
      digits = refl;
      longest_digits = refl;
      longest_words = refl;
      none_empty = refl;
    }
are_runs (b ∷ part) =
    elim (cases_Bool (is_digit b)) [
      | inl digit ↦
          rw (runs_of-digit b part digit) (digit-kept b part (runs_of part) digit (are_runs part))
      | inr other ↦
          rw (runs_of-other b part other) (other-kept b part (runs_of part) other (are_runs part))
    ]
