-- Texts that are made paragraph by paragraph.
--
--   GetsBehind Is old new    such a text came behind another
--   is_closed piece          the text ends in an empty line
--   IsReadAs P piece         the text by itself is read as one paragraph, and that is such
--   AreMade Is olds made     what these paragraphs come to, one behind another
use Rattle.std.specs.Prelude.{◌≡◌, ℕ, Bool, true, ◌==◌, List, [], ◌∷◌, ◌++◌, Ok}
use Rattle.std.specs.List.{ends_with}
use Rattle.deb_stanza.specs.Stanza.{Paragraph, paragraphs_at}

abbrev pub GetsBehind : (List ℕ → Type 0) → List ℕ → List ℕ → Type 0
GetsBehind Is old new = (piece : List ℕ) × (new ≡ old ++ piece) × Is piece

abbrev pub is_closed : List ℕ → Bool
is_closed piece = ends_with (λ a b. a == b) piece (10 ∷ 10 ∷ [])

pub record IsReadAs (P : Paragraph → Type 0) (piece : List ℕ) : Type 0 where
  pub paragraph : Paragraph
  pub read : paragraphs_at piece ≡ Ok (paragraph ∷ [])
  pub closed : is_closed piece ≡ true
  pub such : P paragraph

abbrev pub AreMade : (Paragraph → List ℕ → Type 0) → List Paragraph → List ℕ → Type 0
AreMade Is [] made = made ≡ []
AreMade Is (old ∷ olds) made =
    (piece : List ℕ) × (rest : List ℕ) × (made ≡ piece ++ rest) × Is old piece
    × AreMade Is olds rest
