-- Rows, one after the other.
use Rattle.std.proofs.Common.{◌≡◌, ℕ, zero, suc, ◌+◌, ◌<◌, ◌≤◌, ◌||◌, ◌&&◌, ◌==◌, Bool, true, false, List, [], ◌∷◌, ◌++◌, length, take, drop, refl, sym, ap, nat_lt, ◌∙◌, inl, inr, arith, length-drop, length-append, length-take, Some, None}
use Rattle.std.proofs.lemmas.Bool.{cases_Bool, or_from, or_parts, ltb-true, ltb-false}
use Rattle.std.proofs.lemmas.List.Folds.{list_any-append}
use Rattle.std.proofs.lemmas.List.{append-nil, take-append-drop, take_all}
use Rattle.std.specs.List.{list_any, list_all, onto_first}
use Rattle.deb_text.specs.Common.{is_newline, is_blank, before, after, lines_of, is_blank_line}
use Rattle.memchr.specs.Find.{IsFirstByte}
use Rattle.deb_text.proofs.FindLaws.{found_at, first-any, first-none}
use Rattle.deb_text.proofs.LineLaws.{lines_of-cons, lines_of-nil, lines_of-empty}
use Rattle.debian_index.specs.Rows.{row_size, is_closed, stops, AreFilled, AreRows, IsFront}

-- ---- the first row

pub row-drop : (text : List ℕ) → drop (row_size text) text ≡ after is_newline text
row-drop [] = refl
row-drop (b ∷ bs) =
    elim (cases_Bool (is_newline b)) [
      | inl is ↦ rw is refl
      | inr is ↦ rw is (row-drop bs)
    ]

before-row : (text : List ℕ) → before is_newline (take (row_size text) text) ≡ before is_newline text
before-row [] = refl
before-row (b ∷ bs) =
    elim (cases_Bool (is_newline b)) [
      | inl is ↦ rw (is, is) refl
      | inr is ↦ rw (is, is) (ap (λ (bytes : List ℕ). b ∷ bytes) (before-row bs))
    ]

after-row : (text : List ℕ) → after is_newline (take (row_size text) text) ≡ []
after-row [] = refl
after-row (b ∷ bs) =
    elim (cases_Bool (is_newline b)) [
      | inl is ↦ rw (is, is) refl
      | inr is ↦ rw (is, is) (after-row bs)
    ]

pub row-some : (text : List ℕ) → (length text ≡ 0 → ⊥) → 0 < row_size text
row-some [] some = absurd (some refl)
row-some (b ∷ bs) some =
    elim (cases_Bool (is_newline b)) [ inl is ↦ rw is (omega arith) | inr is ↦ rw is (omega arith) ]

pub row-within : (text : List ℕ) → row_size text ≤ length text
row-within [] = omega arith
row-within (b ∷ bs) =
    let rest = row-within bs in
    elim (cases_Bool (is_newline b)) [ inl is ↦ rw is (omega arith) | inr is ↦ rw is (omega arith) ]

some_row : (text : List ℕ) → (length text ≡ 0 → ⊥) → length (take (row_size text) text) ≡ 0 → ⊥
some_row text some none =
    absurd (omega (arith, length-take (row_size text) text, row-some text some, row-within text))

-- found by its newline, or all of the text
row-before : (text : List ℕ) → list_any is_newline text ≡ true
    → row_size text ≡ length (before is_newline text) + 1
row-before [] some = absurd cc
row-before (b ∷ bs) some =
    elim (cases_Bool (is_newline b)) [
      | inl is ↦ rw is refl
      | inr is ↦ let h = rw is at some in
          let rest = row-before bs h in rw is (omega (arith, rest))
    ]

pub row-found : (text : List ℕ) (k : ℕ) → IsFirstByte is_newline text (Some k)
    → k + 1 ≡ row_size text
row-found text k found =
    let cut = found_at is_newline text k found in
    let whole = row-before text (first-any is_newline text k found) in
    omega (arith, whole, ap length cut.0, length-take k text, found.0.high)

row-all : (text : List ℕ) → list_any is_newline text ≡ false → row_size text ≡ length text
row-all [] none = refl
row-all (b ∷ bs) none =
    let both = or_parts (is_newline b) (list_any is_newline bs) none in
    rw both.0 (omega (arith, row-all bs both.1))

pub row-last : (text : List ℕ) → IsFirstByte is_newline text None → length text ≡ row_size text
row-last text none = sym (row-all text (first-none is_newline text none))

-- it is one line
pub row-line : (text : List ℕ) → (length text ≡ 0 → ⊥)
    → lines_of (take (row_size text) text) ≡ before is_newline text ∷ []
row-line text some =
    lines_of-cons (take (row_size text) text) (some_row text some)
    ∙ ap (λ line. line ∷ lines_of (after is_newline (take (row_size text) text))) (before-row text)
    ∙ ap (λ rest. before is_newline text ∷ lines_of rest) (after-row text)
    ∙ ap (λ ls. before is_newline text ∷ ls) lines_of-nil

-- and the first of the text
pub row-first : (text : List ℕ) → (length text ≡ 0 → ⊥)
    → lines_of text ≡ before is_newline text ∷ lines_of (drop (row_size text) text)
row-first text some =
    lines_of-cons text some
    ∙ ap (λ rest. before is_newline text ∷ lines_of rest) (sym (row-drop text))

closed-cons : (b : ℕ) (bs : List ℕ) → (length bs ≡ 0 → ⊥) → is_closed (b ∷ bs) ≡ is_closed bs
closed-cons b [] some = absurd (some refl)
closed-cons b (c ∷ cs) some = refl

-- a row before others ends at a newline
pub row-closed : (text : List ℕ) → row_size text < length text
    → is_closed (take (row_size text) text) ≡ true
row-closed [] below = absurd (omega arith)
row-closed (b ∷ []) below =
    elim (cases_Bool (is_newline b)) [
      | inl is ↦ let h = rw is at below in absurd (omega (arith, h))
      | inr is ↦ let h = rw is at below in absurd (omega (arith, h))
    ]
row-closed (b ∷ c ∷ cs) below =
    elim (cases_Bool (is_newline b)) [
      | inl is ↦ rw is is
      | inr is ↦ let h = rw is at below in
          rw is (closed-cons b (take (row_size (c ∷ cs)) (c ∷ cs))
          (some_row (c ∷ cs) (λ none. absurd (omega arith)))
          ∙ row-closed (c ∷ cs) (omega (arith, h)))
    ]

-- whether it is blank
pub row-blank : (text : List ℕ)
    → is_blank_line (before is_newline text) ≡ list_all is_blank (take (row_size text) text)
row-blank [] = refl
row-blank (b ∷ bs) =
    elim (cases_Bool (is_newline b)) [
      | inl is ↦ rw is (blank-end b is)
      | inr is ↦ rw is (blank-byte b is (is_blank_line (before is_newline bs)) _ (row-blank bs))
    ] where
      blank-end : (b : ℕ) → is_newline b ≡ true → true ≡ is_blank b && true
      blank-end b is = grind (arith)

      blank-byte : (b : ℕ) → is_newline b ≡ false → (x y : Bool) → x ≡ y
          → ((b == 32 || b == 9) && x) ≡ (is_blank b && y)
      blank-byte b is x y same = rw (is, same) (grind arith)

-- ---- texts one behind the other

onto-append : (b : ℕ) (ls more : List (List ℕ)) → (length ls ≡ 0 → ⊥)
    → onto_first b (ls ++ more) ≡ onto_first b ls ++ more
onto-append b [] more some = absurd (some refl)
onto-append b (l ∷ ls) more some = refl

some_lines : (b : ℕ) (bs : List ℕ) → length (lines_of (b ∷ bs)) ≡ 0 → ⊥
some_lines b bs none =
    absurd (omega (arith, ap length (lines_of-cons (b ∷ bs) (λ no. absurd (omega arith)))))

lines-byte : (b : ℕ) (bs : List ℕ) → is_newline b ≡ false
    → lines_of (b ∷ bs) ≡ onto_first b (lines_of bs)
unfolding lines_of
lines-byte b bs is = rw is refl

lines-newline : (b : ℕ) (bs : List ℕ) → is_newline b ≡ true → lines_of (b ∷ bs) ≡ [] ∷ lines_of bs
unfolding lines_of
lines-newline b bs is = rw is refl

pub lines-append : (a b : List ℕ) → is_closed a ≡ true
    → lines_of (a ++ b) ≡ lines_of a ++ lines_of b
lines-append [] b closed = ap (λ (ls : List (List ℕ)). ls ++ lines_of b) (sym lines_of-nil)
lines-append (x ∷ []) b closed =
    lines-newline x b closed
    ∙ ap (λ (ls : List (List ℕ)). ([] ∷ ls) ++ lines_of b) (sym lines_of-nil)
    ∙ ap (λ (ls : List (List ℕ)). ls ++ lines_of b) (sym (lines-newline x [] closed))
lines-append (x ∷ y ∷ ys) b closed =
    elim (cases_Bool (is_newline x)) [
      | inl is ↦ lines-newline x ((y ∷ ys) ++ b) is
          ∙ ap (λ (ls : List (List ℕ)). [] ∷ ls) (lines-append (y ∷ ys) b closed)
          ∙ ap (λ (ls : List (List ℕ)). ls ++ lines_of b) (sym (lines-newline x (y ∷ ys) is))
      | inr is ↦ lines-byte x ((y ∷ ys) ++ b) is
          ∙ ap (onto_first x) (lines-append (y ∷ ys) b closed)
          ∙ onto-append x (lines_of (y ∷ ys)) (lines_of b) (some_lines y ys)
          ∙ ap (λ (ls : List (List ℕ)). ls ++ lines_of b) (sym (lines-byte x (y ∷ ys) is))
    ]

pub closed-append : (a b : List ℕ) → is_closed a ≡ true → is_closed b ≡ true
    → is_closed (a ++ b) ≡ true
closed-append [] b first second = second
closed-append (x ∷ []) [] first second = first
closed-append (x ∷ []) (y ∷ ys) first second = second
closed-append (x ∷ y ∷ ys) b first second = closed-append (y ∷ ys) b first second

-- ---- the front of a text

take-plus : (n m : ℕ) (xs : List ℕ) → take (n + m) xs ≡ take n xs ++ take m (drop n xs)
take-plus zero m xs = ap (λ k. take k xs) (omega arith)
take-plus (suc n) m [] = take_all (suc n + m) [] (omega arith) ∙ sym (take_all m [] (omega arith))
take-plus (suc n) m (x ∷ xs) =
    let on : suc n + m ≡ suc (n + m) = omega arith in
    ap (λ k. take k (x ∷ xs)) on ∙ ap (λ (bytes : List ℕ). x ∷ bytes) (take-plus n m xs)

pub rows-none : (text : List ℕ) → AreRows text 0 0
rows-none text = record {
  within = omega arith;
  closed = λ below. refl;
  count = ap length (sym lines_of-nil);
  few = omega arith;
}

pub some_rest : (text : List ℕ) (size : ℕ) → size < length text → length (drop size text) ≡ 0 → ⊥
some_rest text size below none = absurd (omega (arith, length-drop size text))

-- the lines with one more row
lines-more : (text : List ℕ) (size lines : ℕ) → AreRows text size lines → size < length text
    → lines_of (take (size + row_size (drop size text)) text)
    ≡ lines_of (take size text) ++ before is_newline (drop size text) ∷ []
lines-more text size lines is below =
    let rest = drop size text in
    ap lines_of (take-plus size (row_size rest) text)
    ∙ lines-append (take size text) (take (row_size rest) rest) (is.closed below)
    ∙ ap (λ ls. lines_of (take size text) ++ ls) (row-line rest (some_rest text size below))

closed-more : (text : List ℕ) (size lines : ℕ) → AreRows text size lines → size < length text
    → size + row_size (drop size text) < length text
    → is_closed (take (size + row_size (drop size text)) text) ≡ true
closed-more text size lines is below more =
    let rest = drop size text in
    ap is_closed (take-plus size (row_size rest) text)
    ∙ closed-append (take size text) (take (row_size rest) rest) (is.closed below)
    (row-closed rest (omega (arith, length-drop size text)))

pub rows-more : (text : List ℕ) (size lines : ℕ) → AreRows text size lines → size < length text
    → AreRows text (size + row_size (drop size text)) (lines + 1)
rows-more text size lines is below =
    let rest = drop size text in
    let cut = lines-more text size lines is below in
    let some = row-some rest (some_rest text size below) in
    let long = length-append (lines_of (take size text)) (before is_newline rest ∷ []) in
    record {
      within = omega (arith, length-drop size text, row-within rest, is.within);
      closed = λ more. closed-more text size lines is below more;
      count = omega (arith, ap length cut, long, is.count);
      few = omega (arith, is.few, some);
    }

-- none of the lines is blank, nor is the row that follows
pub filled-more : (text : List ℕ) (size lines : ℕ) → AreRows text size lines → size < length text
    → is_blank_line (before is_newline (drop size text)) ≡ false → AreFilled text size
    → AreFilled text (size + row_size (drop size text))
filled-more text size lines is below blank filled =
    let front = lines_of (take size text) in
    let line = before is_newline (drop size text) in
    ap (list_any is_blank_line) (lines-more text size lines is below)
    ∙ list_any-append is_blank_line front (line ∷ [])
    ∙ or_from (list_any is_blank_line front) (list_any is_blank_line (line ∷ [])) filled
    (or_from (is_blank_line line) false blank refl)

pub filled-none : (text : List ℕ) → AreFilled text 0
filled-none text = ap (list_any is_blank_line) lines_of-nil

-- The rows as far as they were found; where no bytes are asked for, none is blank.
pub record AreRowsTo (least : ℕ) (text : List ℕ) (size lines : ℕ) : Type 0 where
  pub rows : AreRows text size lines
  pub filled : least ≡ 0 → AreFilled text size

pub front-blank : (text : List ℕ) (size lines : ℕ) → AreRows text size lines → size < length text
    → is_blank_line (before is_newline (drop size text)) ≡ true → IsFront text size lines
front-blank text size lines is below blank = record {
  front = is;
  end = ap stops (row-first (drop size text) (some_rest text size below)) ∙ blank;
}

pub front-all : (text : List ℕ) (size lines : ℕ) → AreRows text size lines → length text ≤ size
    → IsFront text size lines
front-all text size lines is all = record {
  front = is;
  end = ap stops (lines_of-empty (drop size text) (omega (arith, length-drop size text)));
}

-- the lines of the front, and those behind it
pub front-lines : (text : List ℕ) (size lines : ℕ) → AreRows text size lines
    → lines_of text ≡ lines_of (take size text) ++ lines_of (drop size text)
front-lines text size lines is =
    elim (cases_Bool (nat_lt size (length text))) [
      | inl below ↦ ap lines_of (sym (take-append-drop size text))
          ∙ lines-append (take size text) (drop size text) (is.closed (ltb-true _ _ below))
      | inr above ↦ whole (ltb-false _ _ above)
    ] where
      whole : length text ≤ size
          → lines_of text ≡ lines_of (take size text) ++ lines_of (drop size text)
      whole all =
          ap lines_of (sym (take_all size text all))
          ∙ sym (append-nil (lines_of (take size text)))
          ∙ ap (λ ls. lines_of (take size text) ++ ls)
          (sym (lines_of-empty (drop size text) (omega (arith, length-drop size text))))
