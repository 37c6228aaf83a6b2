use Rattle.std.proofs.Common.{Ok, Err, map, subst, sym}
use Rattle.farm_commands.specs.Folders.{AreSameBut}
use Rattle.farm_commands.specs.TextFiles.{AreApart, AreBeside, file_of}
use Rattle.farm_commands.proofs.TextFileLaws.{beside-failed, beside-done, beside-undone}
use Rattle.farm_commands.proofs.texts.+write_all.Goals as goal

pub returns-in_err-write_beside : goal.returns-in_err-write_beside
returns-in_err-write_beside g t c =
    let files_are = c.in-Some.ensures.cases.0 in
    let old = g.F.Source.held c.args.folder.now in
    let mid = g.F.Source.held c.write_beside.new.folder in
    subst (λ files. AreBeside (map file_of files) old mid c.from_residual.result) (sym files_are)
    (beside-failed old mid (file_of c.in-Some.first.now) (map file_of c.in-Some.rest.now)
    (subst (λ files. AreApart (map file_of files)) files_are c.requires)
    c.in_err-write_beside.field-0.0 c.from_residual.result c.from_residual.ensures.0
    c.in_err-write_beside.ensures)

pub returns-in-Ok : goal.returns-in-Ok
returns-in-Ok g t c =
    let files_are = c.in-Some.ensures.cases.0 in
    let old = g.F.Source.held c.args.folder.now in
    let mid = g.F.Source.held c.write_beside.new.folder in
    let new = g.F.Source.held c.write_all.new.folder in
    subst (λ files. AreBeside (map file_of files) old new (Ok tt)) (sym files_are)
    (beside-done old mid (file_of c.in-Some.first.now) (map file_of c.in-Some.rest.now)
    (subst (λ files. AreApart (map file_of files)) files_are c.requires)
    c.in_ok-write_beside.field-0 tt new c.in_ok-write_beside.ensures c.in-Ok.ensures)

pub returns-in-Err : goal.returns-in-Err
returns-in-Err g t c =
    let files_are = c.in-Some.ensures.cases.0 in
    let old = g.F.Source.held c.args.folder.now in
    let mid = g.F.Source.held c.write_beside.new.folder in
    let low = g.F.Source.held c.write_all.new.folder in
    let new = g.F.Source.held c.remove_file.new.self in
    subst (λ files. AreBeside (map file_of files) old new (Err c.in-Err.fault)) (sym files_are)
    (beside-undone old mid (file_of c.in-Some.first.now) (map file_of c.in-Some.rest.now)
    (subst (λ files. AreApart (map file_of files)) files_are c.requires)
    c.in_ok-write_beside.field-0 c.in-Err.fault low new c.in_ok-write_beside.ensures
    c.in-Err.ensures
    (subst (λ path. AreSameBut path low new) c.as_str.ensures.value c.remove_file.ensures))
