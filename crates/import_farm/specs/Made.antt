-- Texts that are made of paragraphs of indexes.
--
--   IsCutOf text blocks bytes  the bytes are a block of a text, by the places of blocks
--   IsBlockOf text bytes       the bytes are a paragraph of an index: of its blocks, which say one
--                              behind another what the whole index says, and of which each has one
--                              paragraph at most, they are one
--   IsBlockIn texts bytes      the same of one of several indexes
--   IsOneOf blocks bytes       the bytes are one of these blocks
--   GetsBlocks Is old new      all blocks behind others are such
--   IsWhole Is paragraph       a paragraph of them as it stands
--   IsWholeOrAnew Is paragraph the same, or one under another version: of its fields Version and the
--                              five relation fields alone are other bytes, and of these what
--                              stands in brackets alone
--   IsMadeOf Is old new        such paragraphs came behind a text, each with an empty line behind it
use Rattle.std.specs.Prelude.{◌≡◌, ◌⊎◌, ℕ, List, [], ◌∷◌, ◌++◌, All, Ok}
use Rattle.std.specs.Borrow.{Bor}
use Rattle.std.specs.List.{Contains, flat_map}
use Rattle.deb_text.specs.Lines.{lines_of}
use Rattle.debian_index.specs.Index.{AreBlocks, AreSingle, bytes_in, paragraphs_from, paragraphs_in}
use Rattle.debian_index.specs.declared.blocks.Block.{Block}
use Rattle.import_farm.specs.Rewriting.{AreRowsOf, closed}
use Rattle.import_farm.specs.declared.rewriting.Field.TheVariants.{Kept}
use Rattle.import_farm.specs.declared.imported.NamedText.{NamedText}

abbrev pub IsCutOf : List ℕ → List Block → List ℕ → Type 0
IsCutOf text blocks bytes =
    (block : Block) × Contains blocks block × (bytes ≡ bytes_in text block)

pub record IsBlockOf (text bytes : List ℕ) : Type 0 where
  pub blocks : List Block
  pub read : paragraphs_from 1 text ≡ Ok (flat_map (paragraphs_in text) blocks)
  pub within : AreBlocks text blocks
  pub single : AreSingle text blocks
  pub cut : IsCutOf text blocks bytes

abbrev pub IsBlockIn : List NamedText → List ℕ → Type 0
IsBlockIn texts bytes =
    (text : NamedText) × Contains texts text × IsBlockOf text.bytes.now bytes

abbrev pub IsOneOf : List (Bor (List ℕ)) → List ℕ → Type 0
IsOneOf blocks bytes = (block : Bor (List ℕ)) × Contains blocks block × (bytes ≡ block.now)

abbrev pub GetsBlocks : (List ℕ → Type 0) → List (Bor (List ℕ)) → List (Bor (List ℕ)) → Type 0
GetsBlocks Is old new =
    (more : List (Bor (List ℕ))) × (new ≡ old ++ more) × All (λ block. Is block.now) more

abbrev pub IsWhole : (List ℕ → Type 0) → List ℕ → Type 0
IsWhole Is paragraph = (bytes : List ℕ) × Is bytes × (paragraph ≡ closed bytes)

abbrev pub IsAnew : (List ℕ → Type 0) → List ℕ → Type 0
IsAnew Is paragraph = (bytes : List ℕ) × Is bytes × AreRowsOf Kept (lines_of bytes) paragraph

abbrev pub IsWholeOrAnew : (List ℕ → Type 0) → List ℕ → Type 0
IsWholeOrAnew Is paragraph = IsWhole Is paragraph ⊎ IsAnew Is paragraph

abbrev pub IsMadeOf : (List ℕ → Type 0) → List ℕ → List ℕ → Type 0
IsMadeOf Is old new =
    (paragraphs : List (List ℕ)) × (new ≡ old ++ flat_map (λ p. p ++ 10 ∷ []) paragraphs)
    × All Is paragraphs
