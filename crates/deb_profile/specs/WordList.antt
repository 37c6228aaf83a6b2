-- Lists of words: the names of the farm's architecture, and the active build profiles (the
-- project's own rule).
--
--   words_at text     the words of the text, or BAD_WORD where one is no word
use Rattle.std.specs.Prelude.{ℕ, List, Result, Ok, Err, if◌then◌else◌}
use Rattle.deb_text.specs.Common.{traverse, words, is_word}
use Rattle.deb_relation.specs.declared.error.TheConstants.{BAD_WORD}

abbrev pub word_at : List ℕ → Result (List ℕ) ℕ
word_at run = if is_word run then Ok run else Err BAD_WORD

-- words are separated by blanks
abbrev pub words_at : List ℕ → Result (List (List ℕ)) ℕ
words_at text = traverse word_at (words text)
