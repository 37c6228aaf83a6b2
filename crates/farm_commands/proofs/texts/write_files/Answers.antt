use Rattle.std.proofs.Common.{map}
use Rattle.farm_commands.specs.TextFiles.{file_of}
use Rattle.farm_commands.proofs.TextFileLaws.{written-failed, written-named}
use Rattle.farm_commands.proofs.texts.write_files.Goals as goal

pub returns-in_err-write_all : goal.returns-in_err-write_all
returns-in_err-write_all g c =
    written-failed (map file_of c.args.files.now) c.requires (g.F.Source.held c.args.folder.now)
    (g.F.Source.held c.make_folder.new.self) (g.F.Source.held c.write_all.new.folder)
    c.make_folder.ensures c.in_err-write_all.field-0.0 c.from_residual.result
    c.from_residual.ensures.0 c.in_err-write_all.ensures

pub returns : goal.returns
returns g c =
    written-named (map file_of c.args.files.now) c.requires (g.F.Source.held c.args.folder.now)
    (g.F.Source.held c.make_folder.new.self) (g.F.Source.held c.write_all.new.folder)
    c.make_folder.ensures c.in_ok-write_all.field-0 c.rename_all.result
    (g.F.Source.held c.rename_all.new.folder) c.in_ok-write_all.ensures c.rename_all.ensures
