-- What the table of blocks stands for. A block's parts are steps (its instructions, or their lines),
-- by their place among those that stand in blocks, and uses of earlier rows; a row is the parts of a
-- block, the last one first.
--
--   part_steps steps rows ps  the steps of parts, the last one first
--   turns rows ps             how many turns it takes to open them
--   IsTable ..                what the code keeps of the table
use Rattle.std.specs.Prelude.{◌≡◌, ◌⊎◌, ◌<◌, ◌≤◌, ℕ, ◌+◌, List, [], ◌∷◌, ◌++◌, length, get_or, take, drop, All, Option, Some, None, option_to_list, reverse, Result, Ok, Err}
use Rattle.std.specs.Map.{lookup}
use Rattle.std.specs.Str.{bytes_eq}
use Rattle.std.specs.Global.{Vec}
use Rattle.plan_reader.specs.declared.blocks.Part.{Part}
use Rattle.plan_reader.specs.declared.blocks.Part.TheVariants.{Step, Use}
use Rattle.plan_reader.specs.declared.blocks.Row.{Row}
use Rattle.plan_reader.specs.declared.blocks.Whole.{Whole}
use Rattle.plan_reader.specs.declared.error.TheConstants.{UNKNOWN_BLOCK, MOST_INSTRUCTIONS}
use Rattle.deb_text.specs.Steps.{◌>>=◌}
use Rattle.plan_reader.specs.Drafts.{BlockOf, block_named, within_limit}

-- the blocks that have ended, and what stands in the open one so far
pub record BlockList (X : Type 0) : Type 0 where
  pub ended : List (BlockOf X)
  pub written : List X

module _ {X : Type 0} (mark : List X) (step : ℕ → List X) where
  -- what a part stands for, where the rows stand for these lists; with mark before what is used
  abbrev pub one : List (List X) → Part → List X
  one bodies (Step i) = step i
  one bodies (Use b) = mark ++ get_or bodies b []

  -- what parts stand for, the last one first
  abbrev pub from_top : List (List X) → List Part → List X
  from_top bodies [] = []
  from_top bodies (p ∷ ps) = from_top bodies ps ++ one bodies p

  -- the rows one after the other, each standing for its parts over the rows before it
  abbrev pub bodies_from : List (List X) → List Row → List (List X)
  bodies_from done [] = done
  bodies_from done (r ∷ rs) = bodies_from (done ++ from_top done r.parts.items ∷ []) rs

  -- what each row stands for
  unfoldable pub bodies : List Row → List (List X)
  bodies rows = bodies_from [] rows

-- the step at a place, alone
abbrev pub step_at : {X : Type 0} → List X → ℕ → List X
step_at steps i = take 1 (drop i steps)

-- the steps that parts stand for, the last one first
abbrev pub part_steps : {X : Type 0} → List X → List Row → List Part → List X
part_steps steps rows ps = from_top [] (step_at steps) (bodies [] (step_at steps) rows) ps

abbrev pub one_turn : List ℕ
one_turn = 0 ∷ []

-- one turn for each step and each use
abbrev pub turns : List Row → List Part → ℕ
turns rows ps =
    length (from_top one_turn (λ _. one_turn) (bodies one_turn (λ _. one_turn) rows) ps)

-- a part that speaks of the first m steps and n rows
abbrev pub IsPart : ℕ → ℕ → Part → Type 0
IsPart m n (Step i) = i < m
IsPart m n (Use b) = b < n

abbrev pub AreParts : ℕ → ℕ → List Part → Type 0
AreParts m n [] = Unit {0}
AreParts m n (p ∷ ps) = IsPart m n p × AreParts m n ps

-- rows behind n others, that use rows before them alone
abbrev pub AreRows : ℕ → ℕ → List Row → Type 0
AreRows m n [] = Unit {0}
AreRows m n (r ∷ rs) = AreParts m n r.parts.items × AreRows m (n + 1) rs

-- the block of this name that has ended
abbrev pub block_of : {X : Type 0} → List X → List Row → Vec ℕ × Whole → BlockOf X
block_of steps rows (name, whole) = record {
  name = name.items;
  body = part_steps steps rows (option_to_list whole.part);
}

-- it speaks of what there is, and its steps are counted
pub record IsWhole {X : Type 0} (steps : List X) (rows : List Row) (whole : Whole) : Type 0 where
  pub known : AreParts (length steps) (length rows) (option_to_list whole.part)
  pub counted : whole.count ≡ length (part_steps steps rows (option_to_list whole.part))
  pub few : whole.count ≤ MOST_INSTRUCTIONS

-- steps and rows, the blocks that have ended, and the parts of the open one with their count
pub record IsTable {X : Type 0} (xs : List X) (rs : List Row) (es : List (Vec ℕ × Whole))
    (ps : List Part) (n : ℕ) : Type 0 where
  pub rows : AreRows (length xs) 0 rs
  pub ended : All (λ e. IsWhole xs rs e.1) es
  pub parts : AreParts (length xs) (length rs) (reverse ps)
  pub counted : n ≡ length (part_steps xs rs (reverse ps))
  pub few : n ≤ MOST_INSTRUCTIONS

-- the parts of the open block become a part, and perhaps a row
abbrev pub Closes : List Row → List Part → List Row → Option Part → Type 0
Closes old ps new part =
    ((new ≡ old) × (reverse ps ≡ option_to_list part))
    ⊎ ((r : Row) × (new ≡ old ++ r ∷ []) × (r.parts.items ≡ reverse ps)
    × (part ≡ Some (Use (length old))))

-- what is there, or that no block is called so
abbrev pub or_no_block : {X : Type 0} → Option X → Result X ℕ
or_no_block (Some x) = Ok x
or_no_block None = Err UNKNOWN_BLOCK

-- what a block of this name stands for
abbrev pub whole_named : List (Vec ℕ × Whole) → List ℕ → Result Whole ℕ
whole_named es name = or_no_block (lookup (λ k. bytes_eq name k.items) es)

-- steps come into the open block
abbrev pub write : {X : Type 0} → BlockList X → List X → Result (BlockList X) ℕ
write blocks xs =
    within_limit (blocks.written ++ xs)
    >>= λ all. Ok (record { ended = blocks.ended; written = all })

-- what a block stands for comes into the open block
abbrev pub write_use : {X : Type 0} → BlockList X → List ℕ → Result (BlockList X) ℕ
write_use blocks name = block_named blocks.ended name >>= λ xs. write blocks xs
