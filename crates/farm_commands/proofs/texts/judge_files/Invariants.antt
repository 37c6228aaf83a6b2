use Rattle.std.proofs.Common.{All, map, take}
use Rattle.farm_commands.specs.Makings.{IsOurs, head_by}
use Rattle.farm_commands.specs.TextFiles.{file_of}
use Rattle.farm_commands.proofs.texts.judge_files.Given as goal

abbrev pub invariant-loop-file : goal.invariant-loop-file
invariant-loop-file g l =
    All (IsOurs (head_by l.maker) (g.F.Source.held l.folder)) (map file_of (take l.file-index l.files))
