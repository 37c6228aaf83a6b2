-- Texts that come behind others, one by one. Only clauses of private functions cite this file.
--
--   encoded_texts texts    the bytes of encoded texts
--   GetsOne Is old new     such a text came behind others
use Rattle.std.specs.Prelude.{◌≡◌, ℕ, List, [], ◌∷◌, ◌++◌, map}
use Rattle.cross_import.specs.declared.encoded.EncodedText.{EncodedText}

abbrev pub encoded_texts : List EncodedText → List (List ℕ)
encoded_texts texts = map (λ text. text.text.items) texts

abbrev pub GetsOne : (List ℕ → Type 0) → List (List ℕ) → List (List ℕ) → Type 0
GetsOne Is old new = (made : List ℕ) × (new ≡ old ++ made ∷ []) × Is made
