-- Parts are equal where they have the same words and the same numbers, in turn.
use Rattle.std.proofs.Common.{◌≡◌, ℕ, ◌+◌, ◌==◌, ◌<◌, leb, Bool, true, false, not, List, [], ◌∷◌, ◌++◌, map, refl, sym, ap, ◌⊎◌, inl, inr, arith}
use Rattle.std.specs.declared.cmp.Ordering.TheVariants.{Equal}
use Rattle.std.specs.Char.{is_ascii_alphabetic}
use Rattle.std.specs.Cmp.Lexicographic.{slice_cmp}
use Rattle.std.specs.Int.{is_in_range}
use Rattle.std.specs.List.{list_all}
use Rattle.std.specs.Ordering.{nat_cmp}
use Rattle.std.proofs.lemmas.Bool.{cases_Bool, and_parts, or_cases, eqb-true, leb-true, both_ways}
use Rattle.std.proofs.lemmas.Cmp.{tied_itself, nat_cmp_total}
use Rattle.std.proofs.lemmas.Map.Lookups.{exact_unsigned}
use Rattle.deb_text.specs.Common.{is_nil, number}
use Rattle.deb_version.specs.Laws.{AreRuns, meaning_of}
use Rattle.deb_version.specs.Order.{Run, rank_of, end_rank, word_cmp, runs_of, run_cmp, empty_run, part_cmp}
use Rattle.deb_version.specs.OrderLaws.{equal_parts, word_cmp_total}
use Rattle.deb_version.specs.Padded.{padded_cmp}
use Rattle.deb_version.proofs.RunCuts.{are_runs}

-- ---- words

letter_low : (b : ℕ) → is_ascii_alphabetic b ≡ true → (1 < b) × (b < 126)
letter_low b is =
    elim (or_cases (is_in_range 65 90 b) (is_in_range 97 122 b) is) [
      | inl upper ↦
          let both = and_parts (leb 65 b) (leb b 90) upper in
          (omega (arith, leb-true 65 b both.0), omega (arith, leb-true b 90 both.1))
      | inr lower ↦
          let both = and_parts (leb 97 b) (leb b 122) lower in
          (omega (arith, leb-true 97 b both.0), omega (arith, leb-true b 122 both.1))
    ]

-- a byte is `~`, a letter or another, and its weight says which
abbrev IsTilde : ℕ → Type 0
IsTilde b = (b ≡ 126) × (rank_of b ≡ 0)

abbrev IsLetter : ℕ → Type 0
IsLetter b = (1 < b) × (b < 126) × (rank_of b ≡ b)

weighed : (b : ℕ) → IsTilde b ⊎ (IsLetter b ⊎ (rank_of b ≡ b + 256))
weighed b =
    elim (cases_Bool (b == 126)) [
      | inl tilde ↦ inl (eqb-true b 126 tilde, rw tilde refl)
      | inr other ↦ inr (elim (cases_Bool (is_ascii_alphabetic b)) [
        | inl letter ↦ let low = letter_low b letter in inl (low.0, low.1, rw (other, letter) refl)
        | inr mark ↦ inr (rw (other, mark) refl)
      ])
    ]

rank_of-not_end : (b : ℕ) → end_rank ≡ rank_of b → ⊥
rank_of-not_end b e = omega (arith, weighed b)

rank_of-same : (a b : ℕ) → rank_of a ≡ rank_of b → a ≡ b
rank_of-same a b e = omega (arith, weighed a, weighed b)

abbrev ranks : List ℕ → List ℕ
ranks word = map rank_of word ++ end_rank ∷ []

words-same : (v w : List ℕ) → slice_cmp nat_cmp (ranks v) (ranks w) ≡ Equal → v ≡ w
words-same [] [] e = refl
words-same [] (y ∷ ys) e =
    absurd (rank_of-not_end y (exact_unsigned _ _ (equal_parts _ _ e).0))
words-same (x ∷ xs) [] e =
    absurd (rank_of-not_end x (sym (exact_unsigned _ _ (equal_parts _ _ e).0)))
words-same (x ∷ xs) (y ∷ ys) e =
    let parts = equal_parts (nat_cmp (rank_of x) (rank_of y)) _ e in
    rw (rank_of-same x y (exact_unsigned _ _ parts.0), words-same xs ys parts.1) refl

-- ---- runs

abbrev says : Run → List ℕ × ℕ
says run = (run.word, number run.digits)

abbrev has_word : Run → Bool
has_word run = not (is_nil run.word)

run-same : (r s : Run) → run_cmp r s ≡ Equal
    → (r.word ≡ s.word) × (number r.digits ≡ number s.digits)
run-same r s e =
    let parts = equal_parts (word_cmp r.word s.word) _ e in
    (words-same r.word s.word parts.0, exact_unsigned _ _ parts.1)

run_cmp-same : (r s : Run) → says r ≡ says s → run_cmp r s ≡ Equal
run_cmp-same r s e =
    let word = ap (λ (m : List ℕ × ℕ). m.0) e in
    let value = ap (λ (m : List ℕ × ℕ). m.1) e in
    rw (word, value)
    (rw (tied_itself word_cmp_total s.word) (tied_itself nat_cmp_total (number s.digits)))

-- a run with a word is not equal to the empty run
word-not_empty : (run : Run) → has_word run ≡ true → [] ≡ run.word → ⊥
word-not_empty run some e = both_ways (has_word run) (rw (sym e) refl) some

padded-same : (rs ss : List Run) → list_all has_word rs ≡ true → list_all has_word ss ≡ true
    → padded_cmp empty_run run_cmp rs ss ≡ Equal → map says rs ≡ map says ss
padded-same [] [] r_words s_words e = refl
padded-same [] (s ∷ ss) r_words s_words e =
    let first = run-same empty_run s (equal_parts (run_cmp empty_run s) _ e).0 in
    absurd (word-not_empty s (and_parts (has_word s) (list_all has_word ss) s_words).0 first.0)
padded-same (r ∷ rs) [] r_words s_words e =
    let first = run-same r empty_run (equal_parts (run_cmp r empty_run) _ e).0 in
    absurd (word-not_empty r
    (and_parts (has_word r) (list_all has_word rs) r_words).0 (sym first.0))
padded-same (r ∷ rs) (s ∷ ss) r_words s_words e =
    let parts = equal_parts (run_cmp r s) _ e in
    let first = run-same r s parts.0 in
    let r_later = (and_parts (has_word r) (list_all has_word rs) r_words).1 in
    let s_later = (and_parts (has_word s) (list_all has_word ss) s_words).1 in
    rw (first.0, first.1, padded-same rs ss r_later s_later parts.1) refl

first_says : List (List ℕ × ℕ) → List ℕ × ℕ
first_says [] = ([], 0)
first_says (m ∷ ms) = m

later_say : List (List ℕ × ℕ) → List (List ℕ × ℕ)
later_say [] = []
later_say (m ∷ ms) = ms

padded_cmp-same : (rs ss : List Run) → map says rs ≡ map says ss
    → padded_cmp empty_run run_cmp rs ss ≡ Equal
unfolding first_says later_say
padded_cmp-same [] [] e = refl
padded_cmp-same [] (s ∷ ss) e = absurd cc
padded_cmp-same (r ∷ rs) [] e = absurd cc
padded_cmp-same (r ∷ rs) (s ∷ ss) e =
    rw (run_cmp-same r s (ap first_says e)) (padded_cmp-same rs ss (ap later_say e))

-- ---- parts

-- a part that is not empty has a first run, and its other runs have words
runs-same : (a b : List ℕ) (rs ss : List Run) → AreRuns a rs → AreRuns b ss
    → is_nil a ≡ false → is_nil b ≡ false
    → padded_cmp empty_run run_cmp rs ss ≡ Equal → map says rs ≡ map says ss
runs-same a b [] ss of_a of_b some_a some_b e =
    absurd (both_ways (is_nil a) some_a (rw (sym of_a.whole) refl))
runs-same a b (r ∷ rs) [] of_a of_b some_a some_b e =
    absurd (both_ways (is_nil b) some_b (rw (sym of_b.whole) refl))
runs-same a b (r ∷ rs) (s ∷ ss) of_a of_b some_a some_b e =
    let parts = equal_parts (run_cmp r s) _ e in
    let first = run-same r s parts.0 in
    rw (first.0, first.1, padded-same rs ss of_a.longest_digits of_b.longest_digits parts.1) refl

pub part-same : (a b : List ℕ) → is_nil a ≡ false → is_nil b ≡ false → part_cmp a b ≡ Equal
    → meaning_of a ≡ meaning_of b
unfolding part_cmp
part-same a b some_a some_b e =
    runs-same a b (runs_of a) (runs_of b) (are_runs a) (are_runs b) some_a some_b e

pub part_cmp-same : (a b : List ℕ) → meaning_of a ≡ meaning_of b → part_cmp a b ≡ Equal
unfolding part_cmp
part_cmp-same a b e = padded_cmp-same (runs_of a) (runs_of b) e
