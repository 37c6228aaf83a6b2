use Rattle.std.proofs.Common.{map, take}
use Rattle.farm_answers.specs.Files.{named}
use Rattle.farm_commands.specs.Inputs.{AreIndexes, index_in}
use Rattle.farm_commands.proofs.inputs.read_indexes.Given as goal

abbrev pub invariant-loop-path : goal.invariant-loop-path
invariant-loop-path g l =
    AreIndexes (named (g.F.Source.held l.folder) (g.F.Source.given l.folder))
    (map (λ path. path.now) (take l.path-index l.paths)) (map index_in l.files.items)
