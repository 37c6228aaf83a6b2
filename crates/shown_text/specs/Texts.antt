-- Answers as JSON. The project's own format, spelled as serde_json spells a value.
--
--   text_data text       a text, with U+FFFD in place of what is no UTF-8
--   lines_data text      the lines of a text, a list of such texts
--   answer_line value    the line that is written for a value
use Rattle.std.specs.Prelude.{ℕ, List, ◌++◌, map, codes}
use Rattle.std.specs.Str.Lossy.{utf8_lossy}
use Rattle.deb_text.specs.Lines.{lines_of}
use Rattle.serde_json.specs.Data.{Data, string, array}
use Rattle.serde_json.specs.View.{items_of}
use Rattle.serde_json.specs.Written.{compact_text}

abbrev pub text_data : List ℕ → Data
text_data text = string (utf8_lossy text)

abbrev pub lines_data : List ℕ → Data
lines_data text = array (items_of (map text_data (lines_of text)))

abbrev pub answer_line : Data → List ℕ
answer_line value = compact_text value ++ codes "\n"
