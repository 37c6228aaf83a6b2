-- When a text is an encoded index.
--
--   IsPiece s a p old piece        the text is the paragraph of a package, encoded
--   IsEncodedBy s a old piece      the text is what a paragraph of an index comes to
--   IsEncodedIndex s a text made   the same of a whole index
use Rattle.std.specs.Prelude.{◌≡◌, ◌⊎◌, ℕ, Bool, List, [], Some, None, Ok}
use Rattle.deb_stanza.specs.Stanza.{Paragraph}
use Rattle.debian_index.specs.Index.{paragraphs_from}
use Rattle.cross_laws.specs.Binary.{Sides, Binary}
use Rattle.cross_index.specs.EncodedPackage.{IsEncodedAs}
use Rattle.cross_index.specs.Pieces.{AreMade, IsReadAs}
use Rattle.cross_index.specs.Reading.{kept_at}

abbrev pub IsPiece : Sides → Bool → Binary → Paragraph → List ℕ → Type 0
IsPiece s is_archive p old piece = IsReadAs (IsEncodedAs s is_archive p old) piece

-- a paragraph that is not kept comes to nothing
abbrev pub IsLeftOut : Sides → Paragraph → List ℕ → Type 0
IsLeftOut s old piece = (kept_at s old ≡ Ok None) × (piece ≡ [])

-- a package comes to its paragraph, encoded
abbrev pub IsKeptAs : Sides → Bool → Paragraph → List ℕ → Type 0
IsKeptAs s is_archive old piece =
    (p : Binary) × (kept_at s old ≡ Ok (Some p)) × IsPiece s is_archive p old piece

abbrev pub IsEncodedBy : Sides → Bool → Paragraph → List ℕ → Type 0
IsEncodedBy s is_archive old piece = IsLeftOut s old piece ⊎ IsKeptAs s is_archive old piece

pub record IsEncodedIndex (s : Sides) (is_archive : Bool) (text made : List ℕ) : Type 0 where
  pub paragraphs : List Paragraph
  pub read : paragraphs_from 1 text ≡ Ok paragraphs
  pub encoded : AreMade (IsEncodedBy s is_archive) paragraphs made
