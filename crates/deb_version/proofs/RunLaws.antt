-- The first run of a part, and the runs behind it.
use Rattle.std.proofs.Common.{◌≡◌, ℕ, ◌+◌, ◌<◌, ◌≤◌, Bool, true, false, leb, eqb, List, [], ◌∷◌, length, refl, sym, ap, ◌∙◌, Ordering, arith, inl, inr}
use Rattle.std.specs.declared.cmp.Ordering.TheVariants.{Less, Equal, Greater}
use Rattle.std.specs.Ordering.{ordering_then, nat_cmp, is_ne}
use Rattle.std.proofs.lemmas.Bool.{eqb-true, cases_Bool, and_parts, leb-true, eq-eqb, both_ways, cases_eq}
use Rattle.deb_version.specs.Order.{runs_of, run_cmp, part_cmp, digit_before, other_before}
use Rattle.deb_text.specs.Common.{first_is, front, behind, is_digit, number}
use Rattle.deb_version.specs.Runs.{is_other, is_zero, first_run, after_run}
use Rattle.deb_version.proofs.DigitLaws.{AreDigits, IsPlain, digits_cmp, digits_cmp-is}

pub runs_of-digit : (b : ℕ) (bs : List ℕ) → is_digit b ≡ true
    → runs_of (b ∷ bs) ≡ digit_before b (runs_of bs)
unfolding runs_of
runs_of-digit b bs is = rw is refl

pub runs_of-other : (b : ℕ) (bs : List ℕ) → is_digit b ≡ false
    → runs_of (b ∷ bs) ≡ other_before b (runs_of bs)
unfolding runs_of
runs_of-other b bs is = rw is refl

pub runs_of-nil : runs_of [] ≡ []
unfolding runs_of
runs_of-nil = refl

runs_of-cons : (b : ℕ) (bs : List ℕ)
    → runs_of (b ∷ bs) ≡ first_run (b ∷ bs) ∷ runs_of (after_run (b ∷ bs))
runs_of-cons b [] =
    elim (cases_Bool (is_digit b)) [
      | inl d ↦ rw (runs_of-digit b [] d) (simp (d, runs_of-nil) refl)
      | inr o ↦ rw (runs_of-other b [] o) (simp (o, runs_of-nil) refl)
    ]
runs_of-cons b (c ∷ cs) =
    let rest = runs_of-cons c cs in
    elim (cases_Bool (is_digit b)) [
      | inl d ↦ rw (runs_of-digit b (c ∷ cs) d) (elim (cases_Bool (is_digit c)) [
        | inl e ↦ rw rest (simp (d, e) refl)
        | inr e ↦ simp (d, e, rest) refl
      ])
      | inr o ↦ rw (runs_of-other b (c ∷ cs) o, rest) (simp o refl)
    ]

are_digits : (bs : List ℕ) → AreDigits (front is_digit bs)
are_digits [] = tt
are_digits (b ∷ bs) =
    elim (cases_Bool (is_digit b)) [
      | inl d ↦
          let both = and_parts (leb 48 b) (leb b 57) d in
          rw d (leb-true 48 b both.0, omega (arith, leb-true b 57 both.1), are_digits bs)
      | inr o ↦ rw o tt
    ]

is_plain : (bs : List ℕ) → first_is is_zero bs ≡ false → IsPlain (front is_digit bs)
is_plain [] plain = tt
is_plain (b ∷ bs) plain =
    elim (cases_Bool (is_digit b)) [
      | inl d ↦
          let low = leb-true 48 b (and_parts (leb 48 b) (leb b 57) d).0 in
          rw d (elim (cases_eq b 48) [
            | inl e ↦ absurd (both_ways (eqb b 48) plain (eq-eqb b 48 e))
            | inr ne ↦ omega arith
          ])
      | inr o ↦ rw o tt
    ]

pub digits_start : (a b : List ℕ) → first_is is_zero a ≡ false → first_is is_zero b ≡ false
    → digits_cmp Equal (front is_digit a) (front is_digit b)
    ≡ nat_cmp (number (front is_digit a)) (number (front is_digit b))
digits_start a b a_plain b_plain =
    digits_cmp-is (front is_digit a) (front is_digit b) 0 0 (are_digits a) (are_digits b)
    (inr (refl, refl, is_plain a a_plain, is_plain b b_plain))

-- zeros in front change no number
pub number_plain : (bs : List ℕ)
    → number (front is_digit (behind is_zero bs)) ≡ number (front is_digit bs)
number_plain [] = refl
number_plain (b ∷ bs) =
    elim (cases_Bool (is_zero b)) [
      | inl z ↦ rw (eqb-true b 48 z) (number_plain bs)
      | inr n ↦ rw n refl
    ]

pub behind_plain : (bs : List ℕ) → behind is_digit (behind is_zero bs) ≡ behind is_digit bs
behind_plain [] = refl
behind_plain (b ∷ bs) =
    elim (cases_Bool (is_zero b)) [
      | inl z ↦ rw (eqb-true b 48 z) (behind_plain bs)
      | inr n ↦ rw n refl
    ]

-- ---- parts

-- one run more; a part that is used up has the run of no bytes
pub part_cmp-step : (a b : List ℕ)
    → part_cmp a b
    ≡ ordering_then (run_cmp (first_run a) (first_run b)) (part_cmp (after_run a) (after_run b))
unfolding part_cmp
part_cmp-step [] [] = rw runs_of-nil refl
part_cmp-step [] (y ∷ ys) = rw (runs_of-nil, runs_of-cons y ys) refl
part_cmp-step (x ∷ xs) [] = rw (runs_of-cons x xs, runs_of-nil) refl
part_cmp-step (x ∷ xs) (y ∷ ys) = rw (runs_of-cons x xs, runs_of-cons y ys) refl

pub part_cmp-nil : (a b : List ℕ) → length a + length b ≡ 0 → part_cmp a b ≡ Equal
unfolding part_cmp
part_cmp-nil [] [] e = rw runs_of-nil refl
part_cmp-nil [] (y ∷ ys) e = absurd (omega arith)
part_cmp-nil (x ∷ xs) ys e = absurd (omega arith)

behind-le : (p : ℕ → Bool) (xs : List ℕ) → length (behind p xs) ≤ length xs
behind-le p [] = omega arith
behind-le p (x ∷ xs) =
    elim (cases_Bool (p x)) [
      | inl is ↦ rw is (omega (arith, behind-le p xs))
      | inr is ↦ rw is (omega arith)
    ]

pub after_run-le : (xs : List ℕ) → length (after_run xs) ≤ length xs
after_run-le xs = omega (arith, behind-le is_digit (behind is_other xs), behind-le is_other xs)

pub after_run-lt : (xs : List ℕ) → 0 < length xs → length (after_run xs) < length xs
after_run-lt [] some = absurd (omega arith)
after_run-lt (x ∷ xs) some =
    elim (cases_Bool (is_digit x)) [
      | inl is ↦ simp is (omega (arith, behind-le is_digit xs))
      | inr is ↦ simp is (omega (arith, after_run-le xs))
    ]

pub after_run-shorter : (xs ys : List ℕ) → (length xs + length ys ≡ 0 → ⊥)
    → length (after_run xs) + length (after_run ys) < length xs + length ys
after_run-shorter [] [] some = absurd (some (omega arith))
after_run-shorter [] (y ∷ ys) some = omega (arith, after_run-lt (y ∷ ys) (omega arith))
after_run-shorter (x ∷ xs) ys some =
    omega (arith, after_run-lt (x ∷ xs) (omega arith), after_run-le ys)

ne-settles : (o p : Ordering) → is_ne o ≡ true → o ≡ ordering_then o p
ne-settles Less p e = refl
ne-settles Equal p e = absurd cc
ne-settles Greater p e = refl

eq-passes : (o p : Ordering) → is_ne o ≡ false → ordering_then o p ≡ p
eq-passes Less p e = absurd cc
eq-passes Equal p e = refl
eq-passes Greater p e = absurd cc

pub is-equal : (o : Ordering) → is_ne o ≡ false → o ≡ Equal
is-equal Less e = absurd cc
is-equal Equal e = refl
is-equal Greater e = absurd cc

-- the first runs, in the place of what compares them
turned : (a b : List ℕ) (o : Ordering) → o ≡ run_cmp (first_run a) (first_run b)
    → ordering_then o (part_cmp (after_run a) (after_run b)) ≡ part_cmp a b
turned a b o is =
    ap (λ (p : Ordering). ordering_then p (part_cmp (after_run a) (after_run b))) is
    ∙ sym (part_cmp-step a b)

-- runs that differ settle the order
pub settled : (a b : List ℕ) (o total : Ordering) → o ≡ run_cmp (first_run a) (first_run b)
    → is_ne o ≡ true → part_cmp a b ≡ total → o ≡ total
settled a b o total is ne so_far =
    ne-settles o (part_cmp (after_run a) (after_run b)) ne ∙ turned a b o is ∙ so_far

-- equal ones leave it to what stands behind them
pub passes : (a b x y : List ℕ) (o total : Ordering) → o ≡ run_cmp (first_run a) (first_run b)
    → is_ne o ≡ false → x ≡ after_run a → y ≡ after_run b → part_cmp a b ≡ total
    → part_cmp x y ≡ total
passes a b x y o total is eq ex ey so_far =
    rw (ex, ey)
    (sym (eq-passes o (part_cmp (after_run a) (after_run b)) eq) ∙ turned a b o is ∙ so_far)
