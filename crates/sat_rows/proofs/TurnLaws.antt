-- Lists of words by number, the other way round.
use Rattle.std.proofs.Common.{◌≡◌, ℕ, ◌+◌, ◌<◌, ◌≤◌, Bool, true, false, ◌&&◌, ◌||◌, ◌==◌, nat_lt, List, [], length, get_or, take, refl, sym, ap, ◌∙◌, inl, inr, arith}
use Rattle.std.proofs.Math.Bool.{or-false}
use Rattle.std.proofs.lemmas.Bool.{cases_lt, cases_eq, lt-ltb, eq-eqb, ne_eqb}
use Rattle.std.proofs.lemmas.List.{get_or_past}
use Rattle.clause_kernel.specs.Rows.{word_has}
use Rattle.sat_rows.specs.declared.found.NumberWord.{NumberWord}
use Rattle.sat_rows.specs.Found.{among}
use Rattle.sat_rows.specs.Links.{nth_list, AreTurned}
use Rattle.sat_rows.proofs.FoundLaws.{any_next}
use Rattle.sat_rows.proofs.RangeLaws.{not_lt}

none_more : (x k : Bool) → x ≡ (x || (k && false))
none_more true k = refl
none_more false true = refl
none_more false false = refl

spread : (x k a j w : Bool) → ((x || (k && a)) || (j && (k && w))) ≡ (x || (k && (a || (j && w))))
spread true k a j w = refl
spread false true a j w = refl
spread false false a true w = refl
spread false false a false w = refl

-- the words of one list, put into the lists at their numbers
abbrev pub PutsFirst : (old new : List (List NumberWord)) (number : ℕ) (ws : List NumberWord)
    → Type 0
PutsFirst old new number ws =
    (j i b : ℕ) → j < length old
    → among (nth_list new j) i b ≡ (among (nth_list old j) i b || ((i == number) && among ws j b))

pub puts_none : (lists : List (List NumberWord)) (number : ℕ) → PutsFirst lists lists number []
puts_none lists number j i b lt = none_more (among (nth_list lists j) i b) (i == number)

pub puts_next : (start old new : List (List NumberWord)) (number : ℕ) (ws : List NumberWord)
    (at : ℕ) (w : NumberWord) → at < length ws → w ≡ get_or ws at w → length old ≡ length start
    → PutsFirst start old number (take at ws)
    → ((j i b : ℕ) → j < length old → among (nth_list new j) i b ≡ (among (nth_list old j) i b
    || ((j == w.number) && ((i == number) && word_has w.word b))))
    → PutsFirst start new number (take (at + 1) ws)
puts_next start old new number ws at w lt is long so_far put j i b there =
    put j i b (omega (arith, long))
    ∙ ap (λ x. x || ((j == w.number) && ((i == number) && word_has w.word b))) (so_far j i b there)
    ∙ spread (among (nth_list start j) i b) (i == number) (among (take at ws) j b) (j == w.number)
    (word_has w.word b)
    ∙ ap (λ x. among (nth_list start j) i b || ((i == number) && x))
    (sym (any_next (λ w. (j == w.number) && word_has w.word b) ws at w lt is))

-- the first lists are put
abbrev pub AreFirst : (lists turned : List (List NumberWord)) (count number : ℕ) → Type 0
AreFirst lists turned count number =
    (j i b : ℕ) → j < count
    → among (nth_list turned j) i b ≡ (nat_lt i number && among (nth_list lists i) j b)

pub first_none : (lists turned : List (List NumberWord)) (count : ℕ)
    → ((j : ℕ) → nth_list turned j ≡ []) → AreFirst lists turned count 0
first_none lists turned count none j i b lt =
    ap (λ vs. among vs i b) (none j)
    ∙ ap (λ x. x && among (nth_list lists i) j b) (sym (not_lt i 0 (omega arith)))

pub first_next : (lists old new : List (List NumberWord)) (count number : ℕ) → count ≡ length old
    → AreFirst lists old count number → PutsFirst old new number (nth_list lists number)
    → AreFirst lists new count (number + 1)
first_next lists old new count number long so_far put j i b lt =
    put j i b (omega (arith, long))
    ∙ ap (λ x. x || ((i == number) && among (nth_list lists number) j b)) (so_far j i b lt)
    ∙ elim (cases_lt i number) [
      | inl below ↦
          let other = ne_eqb i number (λ e. absurd (omega (arith, e))) in
          ap (λ x. (x && among (nth_list lists i) j b)
          || ((i == number) && among (nth_list lists number) j b))
          (lt-ltb i number below)
          ∙ ap (λ x. among (nth_list lists i) j b || (x && among (nth_list lists number) j b)) other
          ∙ or-false (among (nth_list lists i) j b)
          ∙ ap (λ x. x && among (nth_list lists i) j b) (sym (lt-ltb i (number + 1) (omega arith)))
      | inr ge ↦
          ap (λ x. (x && among (nth_list lists i) j b)
          || ((i == number) && among (nth_list lists number) j b))
          (not_lt i number ge)
          ∙ elim (cases_eq i number) [
            | inl same ↦
                ap (λ x. x && among (nth_list lists number) j b) (eq-eqb i number same)
                ∙ ap (λ k. among (nth_list lists k) j b) (sym same)
                ∙ ap (λ x. x && among (nth_list lists i) j b)
                (sym (lt-ltb i (number + 1) (omega (arith, same))))
            | inr other ↦
                ap (λ x. x && among (nth_list lists number) j b) (ne_eqb i number other)
                ∙ ap (λ x. x && among (nth_list lists i) j b)
                (sym (not_lt i (number + 1) (omega (arith, other))))
          ]
    ]

pub first_all : (lists turned : List (List NumberWord)) (count number : ℕ) → length turned ≡ count
    → length lists ≤ number → AreFirst lists turned count number → AreTurned lists count turned
first_all lists turned count number long all is =
    record {
      long = long;
      each = λ j i b lt.
          is j i b lt
          ∙ elim (cases_lt i number) [
            | inl below ↦ ap (λ x. x && among (nth_list lists i) j b) (lt-ltb i number below)
            | inr past ↦
                ap (λ x. x && among (nth_list lists i) j b) (not_lt i number past)
                ∙ sym (ap (λ vs. among vs j b) (get_or_past lists i [] (omega (arith, all))))
          ];
    }
