-- Standard input as four texts. The project's own rules: the first three lines that are exactly
-- `%%` divide it, and a text that is missing is empty.
--
--   whole_lines text      the lines of a text, each with its newline
--   input_texts input     the four texts
use Rattle.std.specs.Prelude.{ℕ, Bool, ◌||◌, List, [], ◌∷◌, codes, if◌then◌else◌}
use Rattle.std.specs.List.{flat_map, onto_first}
use Rattle.std.specs.Str.{bytes_eq}
use Rattle.deb_text.specs.Common.{is_newline, before, after}

-- each line with its newline, which the last may lack
unfoldable pub whole_lines : List ℕ → List (List ℕ)
whole_lines [] = []
whole_lines (b ∷ bs) =
    if is_newline b then (b ∷ []) ∷ whole_lines bs else onto_first b (whole_lines bs)

-- the text that has these lines
abbrev pub text_of_lines : List (List ℕ) → List ℕ
text_of_lines lines = flat_map (λ line. line) lines

-- a line that is exactly `%%`
abbrev pub is_divider : List ℕ → Bool
is_divider line = bytes_eq line (codes "%%\n") || bytes_eq line (codes "%%")

pub record Texts : Type 0 where
  pub packages : List ℕ
  pub sources : List ℕ
  pub farm : List ℕ
  pub plan : List ℕ

-- the four texts of these lines: what stands before the first divider, before the next, before the
-- third, and the rest
abbrev pub texts_of_lines : List (List ℕ) → Texts
texts_of_lines lines = record {
  packages = text_of_lines (before is_divider lines);
  sources = text_of_lines (before is_divider (after is_divider lines));
  farm = text_of_lines (before is_divider (after is_divider (after is_divider lines)));
  plan = text_of_lines (after is_divider (after is_divider (after is_divider lines)));
}

abbrev pub input_texts : List ℕ → Texts
input_texts input = texts_of_lines (whole_lines input)
