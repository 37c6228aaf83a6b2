-- What was written is read again: lines, words and numbers.
use Rattle.std.proofs.Common.{rules, arith, ◌≡◌, ℕ, ◌+◌, ◌<◌, ◌≤◌, ◌^◌, Bool, true, false, not, ◌&&◌, ◌||◌, length, List, [], ◌∷◌, ◌++◌, refl, sym, ap, ◌∙◌, append_assoc, filter}
use Rattle.std.specs.Prelude.{nat_le, ◌==◌}
use Rattle.std.specs.List.{list_all, slice_split}
use Rattle.std.specs.Str.{all_ascii_digits}
use Rattle.std.specs.Fmt.{decimal}
use Rattle.std.specs.Str.Parse.{digits_value}
use Rattle.std.proofs.lemmas.Str.Parse.{IsNumeralModel, numerals_by_value, digits_value_short}
use Rattle.std.proofs.lemmas.Fmt.{digits_decimal, digits_value-decimal, length-decimal-le, decimal_nonempty}
use Rattle.std.proofs.lemmas.Bool.{ne_eqb, leb-true, and_from, le-leb, and_parts, or_parts}
use Rattle.std.proofs.lemmas.List.Folds.{list_all-append}
use Rattle.deb_text.specs.Bytes.{is_newline, is_blank, is_solid, is_digit}
use Rattle.deb_text.specs.Cuts.{is_nil}
use Rattle.deb_text.specs.Lines.{lines_of, is_skipped, plain_lines}
use Rattle.deb_text.specs.Numbers.{is_number, number}
use Rattle.deb_text.specs.Words.{words, is_run, spaced, text_of}
use Rattle.deb_text.proofs.LineLaws.{lines_of-nil, lines_kept-keeps}
use Rattle.deb_text.proofs.NumberLaws.{list_all-digits, number-digits_value}

-- a byte that ends no line
abbrev pub is_inner : ℕ → Bool
is_inner b = not (is_newline b)

not-true : (x : Bool) → not x ≡ true → x ≡ false
not-true true e = sym e
not-true false e = refl

pub all-parts : {X : Type 0} (p : X → Bool) (x : X) (xs : List X) → list_all p (x ∷ xs) ≡ true
    → (p x ≡ true) × (list_all p xs ≡ true)
all-parts p x xs are = and_parts (p x) (list_all p xs) are

pub run-parts : (w : List ℕ) → is_run w ≡ true
    → (not (is_nil w) ≡ true) × (list_all is_solid w ≡ true)
run-parts w is = and_parts (not (is_nil w)) (list_all is_solid w) is

-- ---- lines

pub line-again : (line rest : List ℕ) → list_all is_inner line ≡ true
    → lines_of (line ++ 10 ∷ rest) ≡ line ∷ lines_of rest
unfolding lines_of
line-again [] rest is = refl
line-again (b ∷ bs) rest is =
    let p = all-parts is_inner b bs is in
    rw (not-true (is_newline b) p.0, line-again bs rest p.1) refl

pub text-again : (ls : List (List ℕ)) → list_all (list_all is_inner) ls ≡ true
    → lines_of (text_of ls) ≡ ls
text-again [] are = lines_of-nil
text-again (l ∷ ls) are =
    let p = all-parts (list_all is_inner) l ls are in
    ap lines_of (append_assoc l (10 ∷ []) (text_of ls)) ∙ line-again l (text_of ls) p.0
    ∙ ap (λ rest. l ∷ rest) (text-again ls p.1)

-- a line that is kept, with its number
pub plain-again : (n : ℕ) (line rest : List ℕ) → list_all is_inner line ≡ true
    → is_skipped line ≡ false
    → plain_lines n (line ++ 10 ∷ rest) ≡ (n, line) ∷ plain_lines (n + 1) rest
plain-again n line rest inner kept =
    lines_kept-keeps (λ line. not (is_skipped line)) n (line ++ 10 ∷ rest) line rest
    (line-again line rest inner) (rw kept refl)

-- ---- words

filter-again : (ws : List (List ℕ)) → list_all is_run ws ≡ true
    → filter (λ w. not (is_nil w)) ws ≡ ws
filter-again [] are = refl
filter-again (w ∷ ws) are =
    let p = all-parts is_run w ws are in
    rw ((run-parts w p.0).0) (ap (λ rest. w ∷ rest) (filter-again ws p.1))

parts-again : (w : List ℕ) (ws : List (List ℕ)) → list_all is_solid w ≡ true
    → list_all is_run ws ≡ true → slice_split is_blank (w ++ spaced ws) ≡ w ∷ ws
parts-again [] [] solid are = refl
parts-again [] (v ∷ vs) solid are =
    let p = all-parts is_run v vs are in
    ap (λ rest. [] ∷ rest) (parts-again v vs (run-parts v p.0).1 p.1)
parts-again (b ∷ w) ws solid are =
    let p = all-parts is_solid b w solid in
    rw (not-true (is_blank b) p.0, parts-again w ws p.1 are) refl

-- words with one space between two
pub words-again : (w : List ℕ) (ws : List (List ℕ)) → is_run w ≡ true → list_all is_run ws ≡ true
    → words (w ++ spaced ws) ≡ w ∷ ws
unfolding words
words-again w ws run are =
    let p = run-parts w run in
    rw (parts-again w ws p.1 are, p.0) (ap (λ rest. w ∷ rest) (filter-again ws are))

-- the same, with a space before the first
pub spaced-again : (ws : List (List ℕ)) → list_all is_run ws ≡ true → words (spaced ws) ≡ ws
unfolding words
spaced-again [] are = refl
spaced-again (w ∷ ws) are =
    let p = all-parts is_run w ws are in
    rw (parts-again w ws (run-parts w p.0).1 p.1) (filter-again (w ∷ ws) are)

-- and indented by two
pub indented-again : (ws : List (List ℕ)) → list_all is_run ws ≡ true → words (32 ∷ spaced ws) ≡ ws
unfolding words
indented-again ws are = rw (parts-again [] ws refl are) (filter-again ws are)

-- words hold no newline, so what they are spelled by is one line
solid-inner : (b : ℕ) → is_solid b ≡ true → is_inner b ≡ true
solid-inner b is = rw ((or_parts (b == 32 || b == 9) (b == 10) (not-true (is_blank b) is)).1) refl

run-line : (w : List ℕ) → list_all is_solid w ≡ true → list_all is_inner w ≡ true
run-line [] is = refl
run-line (b ∷ w) is =
    let p = all-parts is_solid b w is in
    and_from (is_inner b) (list_all is_inner w) (solid-inner b p.0) (run-line w p.1)

pub spaced-line : (ws : List (List ℕ)) → list_all is_run ws ≡ true
    → list_all is_inner (spaced ws) ≡ true
spaced-line [] are = refl
spaced-line (w ∷ ws) are =
    let p = all-parts is_run w ws are in
    list_all-append is_inner w (spaced ws)
    ∙ and_from (list_all is_inner w) (list_all is_inner (spaced ws))
    (run-line w (run-parts w p.0).1) (spaced-line ws p.1)

-- ---- numbers

own : IsNumeralModel (λ ds. all_ascii_digits ds ≡ true) (digits_value 10)
own = numerals_by_value _ (search rules)

digits-again : (n : ℕ) → n < 10 ^ 15 → list_all is_digit (decimal n) ≡ true
digits-again n small = sym (list_all-digits (decimal n)) ∙ digits_decimal own n (omega arith)

pub value-again : (n : ℕ) → n < 10 ^ 15 → number (decimal n) ≡ n
value-again n small =
    number-digits_value (decimal n) (digits-again n small)
    ∙ digits_value-decimal own n (omega arith)

not-empty : (ds : List ℕ) → 0 < length ds → not (is_nil ds) ≡ true
not-empty [] lt = grind (arith, lt)
not-empty (d ∷ ds) lt = refl

pub number-again : (n : ℕ) → n < 10 ^ 15 → is_number (decimal n) ≡ true
number-again n small =
    rw (not-empty (decimal n) (decimal_nonempty n (omega arith)), digits-again n small)
    (within (length-decimal-le 15 n (omega arith) small (omega arith))) where
      within : length (decimal n) ≤ 15 → (nat_le (length (decimal n)) 15 && true) ≡ true
      within le = rw (le-leb _ _ le) refl

-- the digits of a number are a word
digit-solid : (b : ℕ) → is_digit b ≡ true → is_solid b ≡ true
digit-solid b is = let p = and_parts (nat_le 48 b) (nat_le b 57) is in
    let low : 48 ≤ b = leb-true 48 b p.0 in
    rw (
      ne_eqb b 32 (λ e. omega (arith, low, e)),
      ne_eqb b 9 (λ e. omega (arith, low, e)),
      ne_eqb b 10 (λ e. omega (arith, low, e)),
    ) refl

digits-solid : (ds : List ℕ) → list_all is_digit ds ≡ true → list_all is_solid ds ≡ true
digits-solid [] are = refl
digits-solid (d ∷ ds) are =
    let p = all-parts is_digit d ds are in
    and_from (is_solid d) (list_all is_solid ds) (digit-solid d p.0) (digits-solid ds p.1)

pub number-run : (ds : List ℕ) → is_number ds ≡ true → is_run ds ≡ true
number-run ds is =
    let p = and_parts (not (is_nil ds) && nat_le (length ds) 15) (list_all is_digit ds) is in
    and_from (not (is_nil ds)) (list_all is_solid ds)
    (and_parts (not (is_nil ds)) (nat_le (length ds) 15) p.0).0 (digits-solid ds p.1)

pub number-small : (ds : List ℕ) → is_number ds ≡ true → number ds < 10 ^ 15
number-small ds is =
    let p = and_parts (not (is_nil ds) && nat_le (length ds) 15) (list_all is_digit ds) is in
    let q = and_parts (not (is_nil ds)) (nat_le (length ds) 15) p.0 in
    rw (number-digits_value ds p.1)
    (digits_value_short own ds 15 (list_all-digits ds ∙ p.1) (leb-true (length ds) 15 q.1))
