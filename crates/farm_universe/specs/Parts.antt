-- Parts of a text, whose paragraphs are read by themselves. Only the contracts of private functions
-- cite this file.
--
--   AreParts    what was read of the paragraphs from one on, paragraph by paragraph
--   AreReads    what was read of the paragraphs from one up to another
use Rattle.std.specs.Prelude.{◌≡◌, ℕ, ◌+◌, List, Some, length, slice_get}
use Rattle.deb_stanza.specs.Stanza.{Paragraph, paragraph_at}

abbrev pub AreParts : {P : Type 0} → (Paragraph → P → Type 0) → List Paragraph → ℕ → List P
    → Type 0
AreParts {P} IsPart ps first parts =
    (k : ℕ) (part : P) → slice_get parts k ≡ Some part → IsPart (paragraph_at ps (first + k)) part

pub record AreReads {P : Type 0} (IsPart : Paragraph → P → Type 0) (ps : List Paragraph)
    (from to : ℕ) (parts : List P) : Type 0 where
  pub long : from + length parts ≡ to
  pub each : AreParts IsPart ps from parts
