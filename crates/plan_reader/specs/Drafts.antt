-- What a line of a plan does behind the lines before it (the project's own format): blocks are a
-- map from names to lists of instructions, and a `use` stands for the list of its block.
-- Parameters: u a universe, d a draft, bs and ls the blocks and the lanes that have ended, s a
-- side.
--
--   Draft, Reading               what the lines so far say
--   block_named bs name          what stands in a block, or UNKNOWN_BLOCK
--   known_name, known_base,
--   known_recipe                 a name's number in the universe, or UNKNOWN_NAME
--   set_of, instruction_of       the numbers of a set of names; the instruction that a line says
--   may_say s wording            whether an instruction may stand there
--   take_form u number r form    what is read with one more line, or the code of the line's fault
use Rattle.std.specs.Prelude.{ℕ, ◌+◌, Bool, true, false, ◌&&◌, nat_le, nat_lt, List, [], ◌∷◌, ◌++◌, length, map, Option, Some, None, Result, Ok, Err, if◌then◌else◌}
use Rattle.std.specs.List.{list_any, flat_map}
use Rattle.std.specs.Str.{bytes_eq}
use Rattle.deb_profile.specs.Reduction.{reduced_entry}
use Rattle.deb_text.specs.Common.{place_in, ◌>>=◌, traverse}
use Rattle.farm_model.specs.Universe.{Base, Recipe, Universe}
use Rattle.plan_reader.specs.declared.error.TheConstants.{BAD_LINE, UNKNOWN_NAME, NAME_TWICE, UNKNOWN_BLOCK, PUBLISHED_TWICE, NAME_TAKEN, OVER_LIMIT, MOST_LANES, MOST_INSTRUCTIONS}
use Rattle.plan_model.specs.Common.{Side, Outside, InFirst, InSecond, side_behind, published_by, Lane, has_double}
use Rattle.plan_model.specs.declared.instructions.Instruction.{Instruction}
use Rattle.plan_model.specs.declared.instructions.Instruction.TheVariants.{Unpack, Configure, Deconfigure, Remove, Build, Publish, Wait, When, Otherwise, EndWhen}
use Rattle.plan_reader.specs.Forms.{Wording, UnpackForm, ConfigureForm, DeconfigureForm, RemoveForm, BuildForm, PublishForm, WaitForm, WhenForm, ElseForm, Form, BlockForm, LaneForm, EndForm, UseForm, InstructionForm}

-- a block: its name, and what stands in it, with what stands in the blocks that it uses
pub record BlockOf (X : Type 0) : Type 0 where
  pub name : List ℕ
  pub body : List X

-- a block of instructions
abbrev pub Block : Type 0
Block = BlockOf Instruction

-- what is left open, with the number of its first line
pub data Open : Type 0 where
  Nothing : Open
  InBlock : (line : ℕ) (block : Block) → Open
  InLane : (line : ℕ) (lane : Lane) → Open

-- the blocks and the lanes that have ended, and what is left open
pub record Draft : Type 0 where
  pub blocks : List Block
  pub lanes : List Lane
  pub current : Open

-- before the first line
abbrev pub empty : Draft
empty = record { blocks = []; lanes = []; current = Nothing }

-- what the lines so far say, and in which branch the next one stands. The place of a side is here
-- the line of its `when`
pub record Reading : Type 0 where
  pub draft : Draft
  pub side : Side

-- before the first line
abbrev pub unread : Reading
unread = record { draft = empty; side = Outside }

-- whether something is left open
abbrev pub is_open : Open → Bool
is_open Nothing = false
is_open (InBlock line block) = true
is_open (InLane line lane) = true

-- what stands in the block of this name, or that no block that has ended is called so
abbrev pub block_named : {X : Type 0} → List (BlockOf X) → List ℕ → Result (List X) ℕ
block_named [] name = Err UNKNOWN_BLOCK
block_named (b ∷ bs) name =
    if bytes_eq name b.name then Ok b.body else block_named bs name

-- the lanes that have ended, and the open one
abbrev pub all_lanes : List Lane → Open → List Lane
all_lanes ls Nothing = ls
all_lanes ls (InBlock line block) = ls
all_lanes ls (InLane line lane) = ls ++ lane ∷ []

-- the instructions of these lanes, lane by lane
abbrev pub instructions_of : List Lane → List Instruction
instructions_of ls = flat_map (λ (l : Lane). l.instructions) ls

-- the recipes that these instructions publish
abbrev pub published : List Instruction → List ℕ
published xs = flat_map published_by xs

-- ---- names

-- a number, or that its name is not known
abbrev pub or_unknown : Option ℕ → Result ℕ ℕ
or_unknown (Some n) = Ok n
or_unknown None = Err UNKNOWN_NAME

-- the number of a package's name
unfoldable pub known_name : Universe → List ℕ → Result ℕ ℕ
known_name u word = or_unknown (place_in bytes_eq u.names word)

-- the names of the base chroots, by number
abbrev pub base_names : Universe → List (List ℕ)
base_names u = map (λ (b : Base). b.name) u.bases

-- the number of a base chroot
unfoldable pub known_base : Universe → List ℕ → Result ℕ ℕ
known_base u word = or_unknown (place_in bytes_eq (base_names u) word)

-- the members of a set, none of them twice
abbrev pub distinct_set : List ℕ → Result (List ℕ) ℕ
distinct_set members = if has_double members then Err NAME_TWICE else Ok members

-- the numbers of these names: all of them known, and then none twice
unfoldable pub set_of : Universe → List (List ℕ) → Result (List ℕ) ℕ
set_of u ws = traverse (known_name u) ws >>= distinct_set

-- the names of the recipes, by number
abbrev pub recipe_names : Universe → List (List ℕ)
recipe_names u = map (λ (r : Recipe). r.name) u.recipes

-- the number of a recipe
unfoldable pub known_recipe : Universe → List ℕ → Result ℕ ℕ
known_recipe u word = or_unknown (place_in bytes_eq (recipe_names u) word)

-- the instruction that a line says; what a wait waits for is reduced to the farm's architecture
unfoldable pub instruction_of : Universe → Wording → Result Instruction ℕ
instruction_of u (UnpackForm name relation) = known_name u name >>= λ n. Ok (Unpack n relation)
instruction_of u (ConfigureForm ws) = set_of u ws >>= λ members. Ok (Configure members)
instruction_of u (DeconfigureForm ws) = set_of u ws >>= λ members. Ok (Deconfigure members)
instruction_of u (RemoveForm ws) = set_of u ws >>= λ members. Ok (Remove members)
instruction_of u (BuildForm word) = known_recipe u word >>= λ r. Ok (Build r)
instruction_of u (PublishForm word) = known_recipe u word >>= λ r. Ok (Publish r)
instruction_of u (WaitForm entry) = Ok (Wait (reduced_entry u.architectures [] entry))
instruction_of u (WhenForm name relation) = known_name u name >>= λ n. Ok (When n relation)
instruction_of u ElseForm = Ok Otherwise

-- ---- lines

-- a block opens at the line of this number
abbrev pub open_block : ℕ → Draft → List ℕ → Result Draft ℕ
open_block number d name =
    if list_any (λ (b : Block). bytes_eq name b.name) d.blocks then Err NAME_TAKEN
    else Ok (record {
      blocks = d.blocks;
      lanes = d.lanes;
      current = InBlock number (record { name = name; body = [] });
    })

-- a lane without instructions
abbrev pub fresh_lane : List ℕ → ℕ → ℕ → Lane
fresh_lane name base budget = record {
  name = name;
  base = base;
  budget = budget;
  instructions = [];
}

-- a lane opens at the line of this number
abbrev pub open_lane : ℕ → Draft → List ℕ → ℕ → ℕ → Result Draft ℕ
open_lane number d name budget base =
    if list_any (λ (l : Lane). bytes_eq l.name name) d.lanes then Err NAME_TAKEN
    else (if nat_le MOST_LANES (length d.lanes) then Err OVER_LIMIT
    else Ok (record {
      blocks = d.blocks;
      lanes = d.lanes;
      current = InLane number (fresh_lane name base budget);
    }))

-- the open block or lane ends
abbrev pub end_open : List Block → List Lane → Open → Result Draft ℕ
end_open bs ls Nothing = Err BAD_LINE
end_open bs ls (InBlock line block) =
    Ok (record { blocks = bs ++ block ∷ []; lanes = ls; current = Nothing })
end_open bs ls (InLane line lane) =
    Ok (record { blocks = bs; lanes = ls ++ lane ∷ []; current = Nothing })

-- a lane with more instructions behind the others
abbrev pub with_instructions : Lane → List Instruction → Lane
with_instructions l xs = record {
  name = l.name;
  base = l.base;
  budget = l.budget;
  instructions = l.instructions ++ xs;
}

-- these recipes, none of them twice
abbrev pub published_once : List ℕ → Result (List ℕ) ℕ
published_once recipes = if has_double recipes then Err PUBLISHED_TWICE else Ok recipes

-- these instructions or lines, not too many of them
abbrev pub within_limit : {X : Type 0} → List X → Result (List X) ℕ
within_limit xs = if nat_lt MOST_INSTRUCTIONS (length xs) then Err OVER_LIMIT else Ok xs

-- instructions come into the open block or lane: no recipe is published twice in the lanes, and
-- there are not too many in the block, or in all lanes
abbrev pub add_to_open : List Block → List Lane → Open → List Instruction → Result Draft ℕ
add_to_open bs ls Nothing xs = Err BAD_LINE
add_to_open bs ls (InBlock line block) xs =
    within_limit (block.body ++ xs)
    >>= λ all. Ok (record {
      blocks = bs;
      lanes = ls;
      current = InBlock line (record { name = block.name; body = all });
    })
add_to_open bs ls (InLane line lane) xs =
    let all = instructions_of (ls ++ lane ∷ []) ++ xs in
    published_once (published all)
    >>= λ _. within_limit all
    >>= λ _. Ok (record {
      blocks = bs;
      lanes = ls;
      current = InLane line (with_instructions lane xs);
    })

-- the recipes that all lanes publish with those of more instructions, where the lanes have so many:
-- no recipe is published twice, and there are not too many instructions
abbrev pub noted : ℕ → List ℕ → List Instruction → Result (List ℕ) ℕ
noted count recipes xs =
    published_once (recipes ++ published xs)
    >>= λ all. if nat_lt MOST_INSTRUCTIONS (count + length xs) then Err OVER_LIMIT else Ok all

-- what a block stands for comes into the open block or lane
abbrev pub add_use : List Block → List Lane → Open → List ℕ → Result Draft ℕ
add_use bs ls o name = block_named bs name >>= λ xs. add_to_open bs ls o xs

-- ---- branches

-- in no branch
abbrev pub is_outside : Side → Bool
is_outside Outside = true
is_outside (InFirst w) = false
is_outside (InSecond w) = false

-- in a first branch
abbrev pub is_first : Side → Bool
is_first Outside = false
is_first (InFirst w) = true
is_first (InSecond w) = false

-- whether an instruction may stand there: in a branch stands neither a publish, nor a wait, nor
-- another `when`, and an `else` ends a first branch
abbrev pub may_say : Side → Wording → Bool
may_say s (PublishForm recipe) = is_outside s
may_say s (WaitForm entry) = is_outside s
may_say s (WhenForm name relation) = is_outside s
may_say s ElseForm = is_first s
may_say s _ = true

-- a draft, and in which branch the next line stands
abbrev pub on_side : Side → Draft → Result Reading ℕ
on_side s d = Ok (record { draft = d; side = s })

-- an instruction comes into what is open
abbrev pub put : ℕ → Reading → Instruction → Result Reading ℕ
put number r x =
    add_to_open r.draft.blocks r.draft.lanes r.draft.current (x ∷ [])
    >>= on_side (side_behind number r.side x)

-- ---- a line behind those that were read

-- a line opens a block, or a lane, where nothing is open
abbrev pub take_block : ℕ → Draft → List ℕ → Result Draft ℕ
take_block number d name = if is_open d.current then Err BAD_LINE else open_block number d name

abbrev pub take_lane : Universe → ℕ → Draft → List ℕ → List ℕ → ℕ → Result Draft ℕ
take_lane u number d name chroot budget =
    if is_open d.current then Err BAD_LINE
    else (known_base u chroot >>= open_lane number d name budget)

-- an `end` is that of the second branch, or else of the block or lane
abbrev pub take_end : Draft → Side → Result Reading ℕ
take_end d Outside = end_open d.blocks d.lanes d.current >>= on_side Outside
take_end d (InFirst w) = Err BAD_LINE
take_end d (InSecond w) =
    add_to_open d.blocks d.lanes d.current (EndWhen ∷ []) >>= on_side Outside

-- a use comes into what is open, but into no branch
abbrev pub take_use : Reading → List ℕ → Result Reading ℕ
take_use r name =
    if is_open r.draft.current && is_outside r.side
    then (add_use r.draft.blocks r.draft.lanes r.draft.current name >>= on_side Outside)
    else Err BAD_LINE

-- an instruction comes into what is open
abbrev pub take_instruction : Universe → ℕ → Reading → Wording → Result Reading ℕ
take_instruction u number r wording =
    if is_open r.draft.current && may_say r.side wording
    then (instruction_of u wording >>= put number r)
    else Err BAD_LINE

-- first whether the line may stand here, then its names, then what it changes
unfoldable pub take_form : Universe → ℕ → Reading → Form → Result Reading ℕ
take_form u number r (BlockForm name) = take_block number r.draft name >>= on_side Outside
take_form u number r (LaneForm name chroot budget) =
    take_lane u number r.draft name chroot budget >>= on_side Outside
take_form u number r EndForm = take_end r.draft r.side
take_form u number r (UseForm name) = take_use r name
take_form u number r (InstructionForm wording) = take_instruction u number r wording
