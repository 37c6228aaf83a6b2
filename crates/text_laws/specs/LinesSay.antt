-- What the lines of a plan's text say of its plan. Parameters: u a universe, ls the lines of the
-- text that are neither blank nor comments.
--
--   Says u ls number x    the line of this number says an instruction
--   IsLane u ls lane l    the lines of a lane say its instructions, one by one
--   LinesSay              where a text is a plan, its lines say the plan
use Rattle.std.specs.Prelude.{◌≡◌, ℕ, List, map, Result, Ok}
use Rattle.std.specs.List.{AllZip, Contains}
use Rattle.deb_text.specs.Lines.{Line, plain_lines}
use Rattle.farm_model.specs.Universe.{Universe}
use Rattle.plan_reader.specs.Drafts.{instruction_of}
use Rattle.plan_reader.specs.Forms.{Form, EndForm, InstructionForm, form_at}
use Rattle.plan_reader.specs.declared.origin.Origin.{Origin}
use Rattle.plan_reader.specs.PlanLines.{LaneLines, lines_of}
use Rattle.plan_reader.specs.PlanText.{plan_of}
use Rattle.plan_model.specs.Plan.{Lane, Plan}
use Rattle.plan_model.specs.declared.instructions.Instruction.{Instruction}
use Rattle.plan_model.specs.declared.instructions.Instruction.TheVariants.{EndWhen}

-- a line of this form says an instruction: its own, or that of the `end` of a branch
abbrev pub IsSaidByForm : Universe → Result Form ℕ → Instruction → Type 0
IsSaidByForm u (Ok (InstructionForm wording)) x = instruction_of u wording ≡ Ok x
IsSaidByForm u (Ok EndForm) x = x ≡ EndWhen
IsSaidByForm u _ x = ⊥

-- there is such a line, and it says the instruction
pub record Says (u : Universe) (ls : List Line) (number : ℕ) (x : Instruction) : Type 0 where
  pub line : List ℕ
  pub stands : Contains ls (number, line)
  pub said : IsSaidByForm u (form_at line) x

-- a lane has an origin for each instruction, whose line says it
abbrev pub IsLane : Universe → List Line → LaneLines → Lane → Type 0
IsLane u ls lane l =
    AllZip (Says u ls) (map (λ (o : Origin). o.line) lane.origins) l.instructions

-- where a text is a plan, it has the lines of as many lanes, and they say the plan
abbrev pub LinesSay : Type 0
LinesSay =
    (u : Universe) (text : List ℕ) (p : Plan) → plan_of u text ≡ Ok p
    → AllZip (IsLane u (plain_lines 1 text)) (lines_of text).lanes p
