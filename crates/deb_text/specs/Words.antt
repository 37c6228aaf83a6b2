-- Words and names.
use Rattle.std.specs.Prelude.{ℕ, Bool, false, not, ◌&&◌, nat_le, List, [], ◌∷◌, ◌++◌, length, filter, codes}
use Rattle.std.specs.List.{list_all, flat_map, slice_split}
use Rattle.std.specs.Str.{bytes_eq}
use Rattle.deb_text.specs.Bytes.{is_blank, is_solid, is_lower, is_name_byte, is_word_byte}
use Rattle.deb_text.specs.Cuts.{is_nil, first_is}

-- what stands between blanks
unfoldable pub words : List ℕ → List (List ℕ)
words text = filter (λ word. not (is_nil word)) (slice_split is_blank text)

-- a run of bytes without blanks
abbrev pub is_run : List ℕ → Bool
is_run text = not (is_nil text) && list_all is_solid text

-- a run of bytes without blanks and without < > ! , | ( ) [ ]
abbrev pub is_word : List ℕ → Bool
is_word text = not (is_nil text) && list_all is_word_byte text

-- "must consist only of lower case letters, digits, plus and minus signs, and periods", be "at
-- least two characters long and must start with an alphanumeric character" (Policy 5.6.1)
abbrev pub is_name : List ℕ → Bool
is_name text = nat_le 2 (length text) && first_is is_lower text && list_all is_name_byte text

-- this name and `1`, and no other words
abbrev pub head_words : List ℕ → List (List ℕ) → Bool
head_words name (word ∷ version ∷ []) = bytes_eq word name && bytes_eq version (codes "1")
head_words name _ = false

-- whether a line says that a text is of this kind and of version 1, as `plan 1` does
unfoldable pub is_head : List ℕ → List ℕ → Bool
is_head name line = head_words name (words line)

-- ---- how words and lines are written

-- these words, a space before each
abbrev pub spaced : List (List ℕ) → List ℕ
spaced ws = flat_map (λ word. 32 ∷ word) ws

-- these lines, a newline behind each
abbrev pub text_of : List (List ℕ) → List ℕ
text_of ls = flat_map (λ line. line ++ 10 ∷ []) ls
