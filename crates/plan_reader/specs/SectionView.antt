-- What the code keeps of the lines so far, and what it stands for.
--
--   open_of xs section    what is left open, where the open block has these instructions
--   put_in                what is kept with one more instruction
--   IsTallied xs n rs     n is the number of these instructions, and rs are the recipes that they
--                         publish, none twice
use Rattle.std.specs.Prelude.{◌≡◌, ◌≤◌, ℕ, ◌+◌, false, List, [], ◌∷◌, length, Result, Ok, Err}
use Rattle.std.specs.List.{list_any}
use Rattle.std.specs.Str.{bytes_eq}
use Rattle.deb_text.specs.Steps.{◌>>=◌}
use Rattle.plan_reader.specs.declared.assembly.Section.{Section}
use Rattle.plan_reader.specs.declared.assembly.Section.TheVariants.{Outside, Block, Lane}
use Rattle.plan_reader.specs.declared.error.TheConstants.{BAD_LINE, MOST_INSTRUCTIONS}
use Rattle.plan_reader.specs.BlockTable.{BlockList, write}
use Rattle.plan_reader.specs.Drafts.{Block as BlockRecord, Open, Nothing, InBlock, InLane, all_lanes, instructions_of, noted, published, with_instructions}
use Rattle.plan_model.specs.Common.{Lane as LaneRecord, has_double}
use Rattle.plan_model.specs.declared.instructions.Instruction.{Instruction}

abbrev pub open_of : List Instruction → Section → Open
open_of xs Outside = Nothing
open_of xs (Block line name) = InBlock line (record { name = name.items; body = xs })
open_of xs (Lane line lane) = InLane line lane

pub record IsTallied (xs : List Instruction) (n : ℕ) (rs : List ℕ) : Type 0 where
  pub counted : n ≡ length xs
  pub recipes : rs ≡ published xs
  pub once : has_double rs ≡ false

-- an open block has a new name, and where none is open nothing is written
abbrev pub Suits : BlockList Instruction → Section → Type 0
Suits blocks Outside = blocks.written ≡ []
Suits blocks (Block line name) =
    list_any (λ (b : BlockRecord). bytes_eq name.items b.name) blocks.ended ≡ false
Suits blocks (Lane line lane) = blocks.written ≡ []

-- what is kept of the lines so far
pub record IsAssembled (blocks : BlockList Instruction) (ls : List LaneRecord) (section : Section) (n : ℕ)
    (rs : List ℕ) : Type 0 where
  pub tallied : IsTallied (instructions_of (all_lanes ls (open_of blocks.written section))) n rs
  pub few : n ≤ MOST_INSTRUCTIONS
  pub suits : Suits blocks section

-- with one more instruction in what is open, where the lanes have n and publish these recipes
abbrev pub put_in : BlockList Instruction → Section → ℕ → List ℕ → Instruction
    → Result (BlockList Instruction × Section × ℕ × List ℕ) ℕ
put_in blocks Outside n rs x = Err BAD_LINE
put_in blocks (Block line name) n rs x =
    write blocks (x ∷ []) >>= λ next. Ok (next, Block line name, n, rs)
put_in blocks (Lane line lane) n rs x =
    noted n rs (x ∷ [])
    >>= λ found. Ok (blocks, Lane line (with_instructions lane (x ∷ [])), n + 1, found)
