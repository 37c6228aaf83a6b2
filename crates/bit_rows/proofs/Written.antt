-- The blocks of a row in which a name's word was written.
use Rattle.std.proofs.Common.{◌≡◌, ◌<◌, ◌/◌, ◌%◌, ℕ, List, length, set, subst, sym, ap, ◌∙◌, arith}
use Rattle.std.proofs.lemmas.List.{length-set}
use Rattle.bit_rows.specs.declared.block.Block.{Block}
use Rattle.bit_rows.specs.Blocks.{block_words_at, words_of, placed, StandsAt, AreRowBlocks}
use Rattle.bit_rows.proofs.RowWords.{length-words_of, four_at, row_blocks-placed, words_of-placed, written_inside}

-- the written blocks, by what the write found
pub record IsWritten (n name word : ℕ) (row : List ℕ) (new : List Block) : Type 0 where
  pub are : AreRowBlocks n new
  pub words : words_of n new ≡ set row name word

pub written : (n at name word : ℕ) (bs found before : List Block) (ws row : List ℕ) → AreRowBlocks n bs
    → words_of n bs ≡ row → name < length row → found ≡ bs → before ≡ bs
    → StandsAt at (name / 4) before
    → ws ≡ block_words_at found (name / 4)
    → IsWritten n name word row
    (placed at (record { place = name / 4; words = set ws (name % 4) word }) bs)
written n at name word bs found before ws row are view lt same_found same_before stands e =
    let place = name / 4 in
    let here = subst (StandsAt at place) same_before stands in
    let old = block_words_at bs place in
    let inside : name < n = omega (arith, length-words_of n bs, ap length view) in
    subst
    (λ l. IsWritten n name word row
    (placed at (record { place = place; words = set l (name % 4) word }) bs))
    (sym (e ∙ ap (λ l. block_words_at l place) same_found)) (record {
      are = row_blocks-placed n at (record { place = place; words = set old (name % 4) word }) bs
          (length-set old (name % 4) word ∙ four_at n bs place are.each)
          (written_inside n name word bs inside are.each) here are;
      words = words_of-placed n at name word bs inside are here ∙ ap (λ r. set r name word) view;
    })
