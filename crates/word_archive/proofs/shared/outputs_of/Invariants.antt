use Rattle.word_archive.proofs.shared.outputs_of.Given as goal
use Rattle.std.proofs.Common.{drop, ◌++◌, ◌≡◌}
use Rattle.std.specs.List.{flat_map}
use Rattle.plan_model.specs.Plan.{lane_outputs, outputs_of}

abbrev pub invariant-loop-instruction : goal.invariant-loop-instruction
invariant-loop-instruction l =
    l.outputs.items ++ flat_map (outputs_of l.universe)
    (drop l.instruction-index l.lane.instructions)
    ≡ lane_outputs l.universe l.lane
