-- The paragraphs of an index, by deb_stanza's definitions.
--
--   paragraphs_from number text    the paragraphs of a text whose first line has that number, or
--                                  its first fault
--   block_at number text           the same of a block of lines, which is no longer than texts may be
--   paragraphs_in text block       the paragraphs of a block of the text's lines
--   later k paragraphs              the same, so many lines further on
--   Left                            what is left of a text: its bytes, and the paragraphs, or the
--                                   first fault
--   IsBlock text block             the block lies in the text
--   AreSingle text blocks          each of the blocks has one paragraph at most
--   IsTooLong text fault           the fault says that a block is longer than texts may be
use Rattle.std.specs.Prelude.{◌≡◌, ℕ, ◌+◌, ◌<◌, ◌≤◌, ◌^◌, nat_lt, List, length, map, take, drop, All, if◌then◌else◌, Result, Err}
use Rattle.deb_text.specs.Common.{fault_at, control_lines, lines_of, judged}
use Rattle.deb_text.specs.declared.fault.Fault.{Fault}
use Rattle.deb_stanza.specs.declared.error.TheConstants.{TEXT_TOO_LONG, MOST_BYTES}
use Rattle.deb_stanza.specs.Stanza.{Paragraph, fault_of, paragraphs_of}
use Rattle.debian_index.specs.declared.blocks.Block.{Block}

abbrev pub paragraphs_from : ℕ → List ℕ → Result (List Paragraph) Fault
paragraphs_from number text = judged fault_of paragraphs_of (control_lines number text)

-- that a block is too long is told at its first line
abbrev pub block_at : ℕ → List ℕ → Result (List Paragraph) Fault
block_at number text =
    if nat_lt MOST_BYTES (length text) then Err (fault_at 0 number TEXT_TOO_LONG)
    else paragraphs_from number text

abbrev pub bytes_in : List ℕ → Block → List ℕ
bytes_in text block = take block.size (drop block.start text)

abbrev pub paragraphs_in : List ℕ → Block → List Paragraph
paragraphs_in text block = paragraphs_of (control_lines block.number (bytes_in text block))

abbrev pub later : ℕ → List Paragraph → List Paragraph
later k ps = map (λ (p : Paragraph). record { line = p.line + k; fields = p.fields }) ps

pub record Left : Type 0 where
  pub size : ℕ
  pub says : Result (List Paragraph) Fault

abbrev pub left_from : ℕ → List ℕ → Left
left_from number text = record { size = length text; says = paragraphs_from number text }

-- its number is that of a line of a text of less than 2 ^ 32 lines
pub record IsBlock (text : List ℕ) (block : Block) : Type 0 where
  pub within : block.start + block.size ≤ length text
  pub some : 0 < block.number
  pub room : block.number + length (lines_of (bytes_in text block)) < 2 ^ 32

abbrev pub AreBlocks : List ℕ → List Block → Type 0
AreBlocks text blocks = All (IsBlock text) blocks

abbrev pub AreSingle : List ℕ → List Block → Type 0
AreSingle text blocks = All (λ block. length (paragraphs_in text block) ≤ 1) blocks

pub record IsTooLong (text : List ℕ) (fault : Fault) : Type 0 where
  pub code : fault.code ≡ TEXT_TOO_LONG
  pub long : MOST_BYTES < length text
