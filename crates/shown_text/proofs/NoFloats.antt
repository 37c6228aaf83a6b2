-- The lines of a text are a value without floats.
use Rattle.std.proofs.Common.{◌≡◌, ℕ, List, [], ◌∷◌, false, map, refl}
use Rattle.shown_text.specs.Texts.{lines_data, text_data}
use Rattle.deb_text.specs.Lines.{lines_of}
use Rattle.serde_json.specs.View.{items_of}
use Rattle.serde_json.specs.Written.{has_float, items_have_float}

none_in : (lines : List (List ℕ)) → items_have_float (items_of (map text_data lines)) ≡ false
none_in [] = refl
none_in (line ∷ lines) = none_in lines

pub no_float_in_lines : (text : List ℕ) → has_float (lines_data text) ≡ false
no_float_in_lines text = none_in (lines_of text)
