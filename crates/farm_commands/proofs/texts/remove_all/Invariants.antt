use Rattle.std.proofs.Common.{map, take}
use Rattle.farm_commands.specs.TextFiles.{IsBesideLeft, file_of}
use Rattle.farm_commands.proofs.texts.remove_all.Given as goal

abbrev pub invariant-loop-file : goal.invariant-loop-file
invariant-loop-file g l =
    IsBesideLeft (map file_of (take l.file-index l.files)) (g.F.Source.held l.initial.folder)
    (g.F.Source.held l.folder)
