-- The first whole line of a text.
use Rattle.std.proofs.Common.{◌≡◌, ℕ, zero, suc, ◌+◌, ◌-◌, ◌<◌, Bool, true, false, List, [], ◌∷◌, length, get_or, take, drop, Some, None, refl, ap, ◌∙◌, arith, add-one}
use Rattle.std.proofs.lemmas.Bool.{false_from_ne_true}
use Rattle.std.proofs.lemmas.Grind.{common_steps}
use Rattle.std.specs.List.{onto_first}
use Rattle.std.specs.Prelude.{if◌then◌else◌}
use Rattle.memchr.specs.Find.{IsFirstByte}
use Rattle.deb_text.specs.Bytes.{is_newline}
use Rattle.plan_reader.specs.Input.{whole_lines, text_of_lines}

pub whole_lines-nil : whole_lines [] ≡ []
unfolding whole_lines
whole_lines-nil = refl

cut_at : (text : List ℕ) (k : ℕ) → k < length text
    → ((i : ℕ) → i < k → is_newline (get_or text i 0) ≡ false)
    → is_newline (get_or text k 0) ≡ true
    → whole_lines text ≡ take (suc k) text ∷ whole_lines (drop (suc k) text)
unfolding whole_lines
cut_at [] k lt none is = absurd (omega arith)
cut_at (b ∷ bs) zero lt none is = rw is refl
cut_at (b ∷ bs) (suc k) lt none is =
    let first : is_newline b ≡ false = none 0 (omega arith) in
    rw (first, cut_at bs k (omega arith) (λ i below. none (suc i) (omega arith)) is) refl

-- a text without a newline is one line
uncut : (b : ℕ) (bs : List ℕ)
    → ((i : ℕ) → i < length (b ∷ bs) → is_newline (get_or (b ∷ bs) i 0) ≡ false)
    → whole_lines (b ∷ bs) ≡ (b ∷ bs) ∷ []
unfolding whole_lines
uncut b [] none = let first : is_newline b ≡ false = none 0 (omega arith) in rw first refl
uncut b (c ∷ cs) none =
    let first : is_newline b ≡ false = none 0 (omega arith) in
    rw (first, uncut c cs (λ i lt. none (suc i) (omega arith))) refl

pub line_found : (text : List ℕ) (k : ℕ) → IsFirstByte is_newline text (Some k)
    → whole_lines text ≡ take (k + 1) text ∷ whole_lines (drop (k + 1) text)
line_found text k found =
    rw add-one
    (cut_at text k found.0.high
    (λ i lt. false_from_ne_true _ (found.0.before i (omega arith) lt))
    found.1)

pub line_last : (text : List ℕ) → IsFirstByte is_newline text None → (length text ≡ 0 → ⊥)
    → whole_lines text
    ≡ text ∷ whole_lines (take (length text - length text) (drop (length text) text))
line_last [] none some = absurd (some refl)
line_last (b ∷ bs) none some =
    let nothing : take (length (b ∷ bs) - length (b ∷ bs)) (drop (length (b ∷ bs)) (b ∷ bs)) ≡ [] =
    grind (arith, common_steps) in
    rw (nothing, whole_lines-nil)
    (uncut b bs (λ i lt. false_from_ne_true _ (none i (omega arith) lt)))

-- the lines of a text, joined, are the text
pub joined-whole_lines : (text : List ℕ) → text_of_lines (whole_lines text) ≡ text
unfolding whole_lines
joined-whole_lines [] = refl
joined-whole_lines (b ∷ bs) = by (is_newline b) (joined-whole_lines bs) where
  onto : (lines : List (List ℕ)) → text_of_lines (onto_first b lines) ≡ b ∷ text_of_lines lines
  onto [] = refl
  onto (l ∷ ls) = refl

  by : (t : Bool) → text_of_lines (whole_lines bs) ≡ bs
      → text_of_lines (if t then (b ∷ []) ∷ whole_lines bs else onto_first b (whole_lines bs))
      ≡ b ∷ bs
  by true more = ap (λ (rest : List ℕ). b ∷ rest) more
  by false more = onto (whole_lines bs) ∙ ap (λ (rest : List ℕ). b ∷ rest) more
