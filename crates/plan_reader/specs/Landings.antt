-- The ends of branches, as tests.
use Rattle.std.specs.Prelude.{Bool, true, false}
use Rattle.plan_model.specs.declared.instructions.Instruction.{Instruction}
use Rattle.plan_model.specs.declared.instructions.Instruction.TheVariants.{Otherwise, EndWhen}

-- the first branch ends
abbrev pub is_otherwise : Instruction → Bool
is_otherwise Otherwise = true
is_otherwise _ = false

-- the second branch ends
abbrev pub is_end_when : Instruction → Bool
is_end_when EndWhen = true
is_end_when _ = false
