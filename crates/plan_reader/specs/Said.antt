-- What a line of a plan says by itself, and what that does behind the lines before it: the same as
-- the line's form (Drafts), whose names are looked up where the line's turn comes. Only the
-- contracts of private functions cite this file. Parameters: u a universe.
--
--   Said                  what a line says, the names of an instruction looked up
--   standing_of wording   where an instruction may stand, by its kind
--   allows s standing     whether it may stand there
--   said_by, said_at      what a form says; what a line says, or BAD_LINE
--   place u number r x    what is read with what one more line says, or the code of its fault
use Rattle.std.specs.Prelude.{ℕ, Bool, true, ◌&&◌, List, Result, Ok, Err, if◌then◌else◌}
use Rattle.deb_text.specs.Steps.{◌>>=◌}
use Rattle.farm_model.specs.Universe.{Universe}
use Rattle.plan_reader.specs.declared.error.TheConstants.{BAD_LINE}
use Rattle.plan_reader.specs.declared.said.Standing.{Standing}
use Rattle.plan_reader.specs.declared.said.Standing.TheVariants.{Anywhere, OutOfBranches, OpensBranches, InFirstBranch}
use Rattle.plan_reader.specs.Drafts.{Reading, is_open, is_outside, is_first, instruction_of, on_side, put, take_block, take_lane, take_end, take_use}
use Rattle.plan_reader.specs.Forms.{Wording, PublishForm, WaitForm, WhenForm, ElseForm, Form, BlockForm, LaneForm, EndForm, UseForm, InstructionForm, form_at}
use Rattle.plan_model.specs.Branches.{Side, Outside}
use Rattle.plan_model.specs.declared.instructions.Instruction.{Instruction}

-- what a line says by itself
pub data Said : Type 0 where
  -- block NAME
  BlockSaid : (name : List ℕ) → Said
  -- lane NAME chroot CHROOT budget NUMBER
  LaneSaid : (name chroot : List ℕ) (budget : ℕ) → Said
  -- end
  EndSaid : Said
  -- use BLOCK
  UseSaid : (block : List ℕ) → Said
  -- an instruction, or the code of what is wrong with its names
  InstructionSaid : (standing : Standing) (named : Result Instruction ℕ) → Said

-- where an instruction may stand, by its kind
abbrev pub standing_of : Wording → Standing
standing_of (PublishForm recipe) = OutOfBranches
standing_of (WaitForm entry) = OutOfBranches
standing_of (WhenForm name relation) = OpensBranches
standing_of ElseForm = InFirstBranch
standing_of _ = Anywhere

-- whether it may stand there
abbrev pub allows : Side → Standing → Bool
allows s Anywhere = true
allows s OutOfBranches = is_outside s
allows s OpensBranches = is_outside s
allows s InFirstBranch = is_first s

-- what a form says
abbrev pub said_by : Universe → Form → Said
said_by u (BlockForm name) = BlockSaid name
said_by u (LaneForm name chroot budget) = LaneSaid name chroot budget
said_by u EndForm = EndSaid
said_by u (UseForm block) = UseSaid block
said_by u (InstructionForm wording) =
    InstructionSaid (standing_of wording) (instruction_of u wording)

-- what a line says, or that it is none of a plan's
unfoldable pub said_at : Universe → List ℕ → Result Said ℕ
said_at u line = form_at line >>= λ form. Ok (said_by u form)

-- an instruction, or what is wrong with its names, comes into what is open
abbrev pub place_instruction : ℕ → Reading → Standing → Result Instruction ℕ → Result Reading ℕ
place_instruction number r standing named =
    if is_open r.draft.current && allows r.side standing then (named >>= put number r)
    else Err BAD_LINE

-- first whether the line may stand here, then its names, then what it changes
unfoldable pub place : Universe → ℕ → Reading → Said → Result Reading ℕ
place u number r (BlockSaid name) = take_block number r.draft name >>= on_side Outside
place u number r (LaneSaid name chroot budget) =
    take_lane u number r.draft name chroot budget >>= on_side Outside
place u number r EndSaid = take_end r.draft r.side
place u number r (UseSaid name) = take_use r name
place u number r (InstructionSaid standing named) = place_instruction number r standing named
