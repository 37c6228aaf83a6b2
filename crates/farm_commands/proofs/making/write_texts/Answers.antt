use Rattle.std.proofs.Common.{All, IfOk, map}
use Rattle.farm_commands.specs.Makings.{IsOurs, head_by}
use Rattle.farm_commands.specs.TextFiles.{file_of}
use Rattle.farm_commands.proofs.MakingLaws.{replaced}
use Rattle.farm_commands.proofs.making.write_texts.Goals as goal

pub returns-clause-replaced : goal.returns-clause-replaced
returns-clause-replaced g c =
    replaced (head_by c.args.target.maker) c.args.target.force (map file_of c.args.files.now)
    (g.F.Source.held c.args.folder.now) (g.F.Source.held c.write_files.new.folder)
    c.write_files.result c.write_files.ensures c.in_ok-judge_unforced.ensures
