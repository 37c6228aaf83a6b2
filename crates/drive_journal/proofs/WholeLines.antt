-- The whole lines of a text.
use Rattle.std.proofs.Common.{arith, ◌≡◌, ℕ, suc, zero, ◌-◌, ◌<◌, ◌≤◌, Bool, true, false, not, ◌&&◌, ◌||◌, length, List, [], ◌∷◌, ◌++◌, refl, sym, ap, subst, ◌∙◌}
use Rattle.std.specs.Prelude.{take, if◌then◌else◌}
use Rattle.std.specs.List.{list_any, onto_first}
use Rattle.std.proofs.Math.Seq.{take-append_seam}
use Rattle.std.proofs.lemmas.Bool.{false≢true}
use Rattle.std.proofs.lemmas.List.{length-append}
use Rattle.deb_text.specs.Common.{is_newline, after_last, lines_of}
use Rattle.drive_journal.specs.Entries.{whole}

no-truth : {A : Type 0} → false ≡ true → A
no-truth e = absurd (false≢true e)

pub whole-none : (text : List ℕ) → list_any is_newline text ≡ false → whole text ≡ []
whole-none [] none = refl
whole-none (b ∷ bs) none = ap (λ x. if x then b ∷ whole bs else []) none

whole-some : (b : ℕ) (bs : List ℕ) → list_any is_newline (b ∷ bs) ≡ true
    → whole (b ∷ bs) ≡ b ∷ whole bs
whole-some b bs found = ap (λ x. if x then b ∷ whole bs else []) found

-- it stands ahead of what is behind the last newline
rest_is : (x y : Bool) (bs : List ℕ) → list_any is_newline bs ≡ y → (x || y) ≡ true
    → (y ≡ true → whole bs ++ after_last is_newline bs ≡ bs)
    → whole bs ++ (if x && not y then bs else after_last is_newline bs) ≡ bs
rest_is true false bs f g ahead = ap (λ w. w ++ bs) (whole-none bs f)
rest_is true true bs f g ahead = ahead refl
rest_is false true bs f g ahead = ahead refl
rest_is false false bs f g ahead = no-truth g

pub whole-and-rest : (text : List ℕ) → list_any is_newline text ≡ true
    → whole text ++ after_last is_newline text ≡ text
whole-and-rest [] found = no-truth found
whole-and-rest (b ∷ bs) found =
    ap (λ x. x ++ after_last is_newline (b ∷ bs)) (whole-some b bs found)
    ∙ ap (λ x. b ∷ x) (rest_is (is_newline b) (list_any is_newline bs) bs refl found
    (whole-and-rest bs))

pub rest-is-shorter : (text : List ℕ) → list_any is_newline text ≡ true
    → length (after_last is_newline text) ≤ length text
rest-is-shorter text found =
    let e = ap (λ (x : List ℕ). length x) (whole-and-rest text found) in
    omega (arith, e, length-append (whole text) (after_last is_newline text))

pub whole-is-taken : (text : List ℕ) → list_any is_newline text ≡ true
    → take (length text - length (after_last is_newline text)) text ≡ whole text
whole-is-taken text found =
    let rest = after_last is_newline text in
    let e = whole-and-rest text found in
    let n : length text - length rest ≡ length (whole text) =
    omega (arith, ap (λ (x : List ℕ). length x) e, length-append (whole text) rest) in
    ap (λ k. take k text) n ∙ (ap (λ x. take (length (whole text)) x) (sym e)
    ∙ take-append_seam (whole text) rest)

-- ---- a text that was cut off

-- a line that is ahead of others stays their first when bytes come ahead of it
onto-append : (b : ℕ) (xs ys : List (List ℕ)) → (0 < length xs)
    → onto_first b (xs ++ ys) ≡ onto_first b xs ++ ys
onto-append b [] ys some = absurd (omega (arith, some))
onto-append b (x ∷ xs) ys some = refl

lines-cons : (b : ℕ) (bs : List ℕ) → 0 < length (lines_of (b ∷ bs))
unfolding lines_of
lines-cons b bs = by_byte (is_newline b) (lines_of bs)
  where
    by_byte : (x : Bool) (ls : List (List ℕ))
        → 0 < length (if x then [] ∷ ls else onto_first b ls)
    by_byte true ls = omega arith
    by_byte false [] = omega arith
    by_byte false (l ∷ ls) = omega arith

whole-lines : (bs : List ℕ) → list_any is_newline bs ≡ true → 0 < length (lines_of (whole bs))
whole-lines [] found = no-truth found
whole-lines (b ∷ bs) found =
    subst (λ x. 0 < length (lines_of x)) (sym (whole-some b bs found)) (lines-cons b (whole bs))

either-taken : (x y z : Bool) → (y ≡ true → z ≡ true) → (x || y) ≡ true → (x || z) ≡ true
either-taken true y z more f = refl
either-taken false y z more f = more f

any-taken : (n : ℕ) (bs : List ℕ) → list_any is_newline (take n bs) ≡ true
    → list_any is_newline bs ≡ true
any-taken zero bs found = no-truth found
any-taken (suc n) [] found = no-truth found
any-taken (suc n) (b ∷ bs) found =
    either-taken (is_newline b) (list_any is_newline (take n bs)) (list_any is_newline bs)
    (any-taken n bs) found

abbrev Torn : List ℕ → ℕ → Type 0
Torn text n = (lost : List (List ℕ))
    × (lines_of (whole text) ≡ lines_of (whole (take n text)) ++ lost)

lines-newline : (b : ℕ) (bs : List ℕ) → is_newline b ≡ true → lines_of (b ∷ bs) ≡ [] ∷ lines_of bs
unfolding lines_of
lines-newline b bs is = ap (λ x. if x then [] ∷ lines_of bs else onto_first b (lines_of bs)) is

lines-inner : (b : ℕ) (bs : List ℕ) → is_newline b ≡ false
    → lines_of (b ∷ bs) ≡ onto_first b (lines_of bs)
unfolding lines_of
lines-inner b bs is = ap (λ x. if x then [] ∷ lines_of bs else onto_first b (lines_of bs)) is

lines-none : lines_of [] ≡ []
unfolding lines_of
lines-none = refl

-- nothing whole is left of it
nothing-left : (text : List ℕ) (n : ℕ) → list_any is_newline (take n text) ≡ false → Torn text n
nothing-left text n none = (
  lines_of (whole text),
  sym (ap (λ x. lines_of x ++ lines_of (whole text)) (whole-none (take n text) none)
      ∙ ap (λ x. x ++ lines_of (whole text)) lines-none),
)

module _ (b : ℕ) (bs : List ℕ) (n : ℕ) (ahead : Torn bs n) where
  both : (list_any is_newline (b ∷ take n bs) ≡ true) → (list_any is_newline (b ∷ bs) ≡ true)
      → lines_of (b ∷ whole bs) ≡ lines_of (b ∷ whole (take n bs)) ++ ahead.0
      → Torn (b ∷ bs) (suc n)
  both found here e = (
    ahead.0,
    ap lines_of (whole-some b bs here) ∙ (e
        ∙ sym (ap (λ x. lines_of x ++ ahead.0) (whole-some b (take n bs) found))),
  )

  by_byte : (x y : Bool) → is_newline b ≡ x → list_any is_newline (take n bs) ≡ y
      → Torn (b ∷ bs) (suc n)
  by_byte true y e f =
      both (ap (λ x. x || list_any is_newline (take n bs)) e)
      (ap (λ x. x || list_any is_newline bs) e)
      (lines-newline b (whole bs) e ∙ (ap (λ ls. [] ∷ ls) ahead.1
      ∙ sym (ap (λ ls. ls ++ ahead.0) (lines-newline b (whole (take n bs)) e))))
  by_byte false true e f =
      both (ap (λ x. x || list_any is_newline (take n bs)) e ∙ f)
      (ap (λ x. x || list_any is_newline bs) e ∙ any-taken n bs f)
      (lines-inner b (whole bs) e ∙ (ap (onto_first b) ahead.1
      ∙ (onto-append b (lines_of (whole (take n bs))) ahead.0 (whole-lines (take n bs) f)
      ∙ sym (ap (λ ls. ls ++ ahead.0) (lines-inner b (whole (take n bs)) e)))))
  by_byte false false e f =
      nothing-left (b ∷ bs) (suc n) (ap (λ x. x || list_any is_newline (take n bs)) e ∙ f)

pub torn_text_is_first_part : (text : List ℕ) (n : ℕ) → Torn text n
torn_text_is_first_part text zero = nothing-left text zero refl
torn_text_is_first_part [] (suc n) = nothing-left [] (suc n) refl
torn_text_is_first_part (b ∷ bs) (suc n) =
    by_byte b bs n (torn_text_is_first_part bs n) (is_newline b) (list_any is_newline (take n bs))
    refl refl
