use Rattle.std.proofs.Common.{◌+◌, map, subst, take}
use Rattle.farm_commands.specs.Folders.{AreSameBut}
use Rattle.farm_commands.specs.TextFiles.{file_of}
use Rattle.farm_commands.proofs.TextFileLaws.{left-more, map_more}
use Rattle.farm_commands.proofs.texts.remove_all.Goals as goal

pub loop-file-preserved : goal.loop-file-preserved
loop-file-preserved g c =
    let old = g.F.Source.held c.args.folder.now in
    let mid = g.F.Source.held c.loop-file.folder in
    let new = g.F.Source.held c.remove_file.new.self in
    left-more (file_of c.file-item.result) (map file_of (take c.loop-file.file-index c.args.files.now))
    (map file_of (take (c.loop-file.file-index + 1) c.args.files.now)) old mid new
    (map_more file_of c.args.files.now c.loop-file.file-index c.file-item.result
    c.loop-file-test.true c.file-item.is)
    c.loop-file.invariant
    (subst (λ path. AreSameBut path mid new) c.as_str.ensures.value c.remove_file.ensures)
