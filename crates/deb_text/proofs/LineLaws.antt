-- The first line of a text, and the lines behind it.
use Rattle.std.proofs.Common.{◌≡◌, ℕ, ◌+◌, ◌-◌, Bool, true, false, Some, None, take, drop, slice_index_or, List, [], ◌∷◌, length, refl, ◌∙◌, arith}
use Rattle.std.proofs.lemmas.Grind.{common_steps}
use Rattle.memchr.specs.Find.{IsFirstByte}
use Rattle.deb_text.specs.Bytes.{is_newline}
use Rattle.deb_text.specs.Cuts.{before, after}
use Rattle.deb_text.specs.Lines.{lines_of, lines_kept}
use Rattle.deb_text.proofs.FindLaws.{found_at, found_none, from-drop}

first_line : (b : ℕ) (bs : List ℕ) (t : Bool) → is_newline b ≡ t
    → lines_of (b ∷ bs) ≡ before is_newline (b ∷ bs) ∷ lines_of (after is_newline (b ∷ bs))
unfolding lines_of
first_line b bs true e = rw e refl
first_line b [] false e = rw e refl
first_line b (c ∷ cs) false e = rw (e, first_line c cs (is_newline c) refl) refl

pub lines_of-cons : (text : List ℕ) → (length text ≡ 0 → ⊥)
    → lines_of text ≡ before is_newline text ∷ lines_of (after is_newline text)
lines_of-cons [] some = absurd (some refl)
lines_of-cons (b ∷ bs) some = first_line b bs (is_newline b) refl

pub lines_of-nil : lines_of [] ≡ []
unfolding lines_of
lines_of-nil = refl

pub lines_of-empty : (text : List ℕ) → length text ≡ 0 → lines_of text ≡ []
lines_of-empty [] e = lines_of-nil
lines_of-empty (b ∷ bs) e = absurd (omega arith)

-- a text that begins with a newline has an empty first line
pub line_empty : (text : List ℕ) → (length text ≡ 0 → ⊥)
    → slice_index_or text 0 0 ≡ 10
    → lines_of text ≡ [] ∷ lines_of (take (length text - 1) (drop 1 text))
unfolding lines_of
line_empty [] some is = absurd (some refl)
line_empty (b ∷ bs) some is = rw (from-drop (b ∷ bs) 1, is) refl

pub line_found : (text : List ℕ) (k : ℕ) → IsFirstByte is_newline text (Some k)
    → (length text ≡ 0 → ⊥)
    → lines_of text ≡ take k text ∷ lines_of (take (length text - (k + 1)) (drop (k + 1) text))
line_found text k found some =
    let cut = found_at is_newline text k found in
    rw (from-drop text (k + 1), cut.0, cut.1) (lines_of-cons text some)

pub line_last : (text : List ℕ) → IsFirstByte is_newline text None → (length text ≡ 0 → ⊥)
    → lines_of text ≡ text ∷ lines_of (take (length text - length text) (drop (length text) text))
line_last text none some =
    let cut = found_none is_newline text none in
    let nothing : take (length text - length text) (drop (length text) text) ≡ [] =
    grind (arith, common_steps) in
    lines_of-cons text some ∙ rw (nothing, ← cut.0, ← cut.1) refl

module _ (keeps : List ℕ → Bool) where
  -- the lines from one that is kept on
  pub lines_kept-keeps : (n : ℕ) (text line rest : List ℕ) → lines_of text ≡ line ∷ lines_of rest
      → keeps line ≡ true → lines_kept keeps n text ≡ (n, line) ∷ lines_kept keeps (n + 1) rest
  lines_kept-keeps n text line rest cut is = rw (cut, is) refl

  -- the lines from one that is skipped on
  pub lines_kept-skips : (n : ℕ) (text line rest : List ℕ) → lines_of text ≡ line ∷ lines_of rest
      → keeps line ≡ false → lines_kept keeps n text ≡ lines_kept keeps (n + 1) rest
  lines_kept-skips n text line rest cut is = rw (cut, is) refl

  pub lines_kept-ends : (n : ℕ) (text : List ℕ) → lines_of text ≡ [] → lines_kept keeps n text ≡ []
  lines_kept-ends n text cut = rw cut refl
