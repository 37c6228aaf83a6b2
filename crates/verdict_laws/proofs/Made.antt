-- The outputs of instructions.
use Rattle.std.specs.Prelude.{List}
use Rattle.std.specs.List.{flat_map}
use Rattle.farm_model.specs.Universe.{Universe}
use Rattle.farm_model.specs.declared.types.Variant.{Variant}
use Rattle.plan_model.specs.Plan.{outputs_of}
use Rattle.plan_model.specs.declared.instructions.Instruction.{Instruction}

-- in order: of all instructions of a lane, what the lane publishes
abbrev pub made : Universe → List Instruction → List Variant
made u is = flat_map (outputs_of u) is
