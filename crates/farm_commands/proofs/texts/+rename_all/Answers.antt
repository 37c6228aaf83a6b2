use Rattle.std.proofs.Common.{◌∷◌, All, Err, map, rules, subst, sym}
use Rattle.farm_commands.specs.TextFiles.{AreApart, AreNamed, HoldsBeside, IsBesideLeft, file_of}
use Rattle.farm_commands.proofs.TextFileLaws.{named-failed, named-on, hold-still}
use Rattle.farm_commands.proofs.texts.+rename_all.Goals as goal

pub returns-in-Err : goal.returns-in-Err
returns-in-Err g t c =
    let files_are = c.in-Some.ensures.cases.0 in
    let old = g.F.Source.held c.args.folder.now in
    let mid = g.F.Source.held c.rename.new.folder in
    let new = g.F.Source.held c.remove_all.new.folder in
    subst (λ files. AreNamed (map file_of files) old new (Err c.in-Err.fault)) (sym files_are)
    (named-failed old mid (file_of c.in-Some.first.now) (map file_of c.in-Some.rest.now)
    (subst (λ files. AreApart (map file_of files)) files_are c.requires.apart)
    c.in-Err.fault c.in-Err.fault new c.in-Err.ensures
    (subst (λ files. IsBesideLeft (map file_of files) mid new) files_are c.remove_all.ensures))

pub rename_all-requires : goal.rename_all-requires
rename_all-requires g t c κs within =
    let files_are = c.in-Some.ensures.cases.0 in
    let old = g.F.Source.held c.args.folder.now in
    let mid = g.F.Source.held c.rename.new.folder in
    let first = file_of c.in-Some.first.now in
    let rest = map file_of c.in-Some.rest.now in
    let apart : AreApart (first ∷ rest) =
    subst (λ files. AreApart (map file_of files)) files_are c.requires.apart in
    let later : AreApart rest = apart.2 in
    let hold : All (HoldsBeside mid) rest =
    hold-still old mid first rest apart c.in_default-rename.field-0 c.in_default-rename.ensures
    (subst (λ files. All (HoldsBeside old) (map file_of files)) files_are c.requires.hold) in
    search (rules, later, hold)

pub returns : goal.returns
returns g t c =
    let files_are = c.in-Some.ensures.cases.0 in
    let old = g.F.Source.held c.args.folder.now in
    let mid = g.F.Source.held c.rename.new.folder in
    let new = g.F.Source.held c.rename_all.new.folder in
    subst (λ files. AreNamed (map file_of files) old new c.rename_all.result) (sym files_are)
    (named-on old mid (file_of c.in-Some.first.now) (map file_of c.in-Some.rest.now)
    (subst (λ files. AreApart (map file_of files)) files_are c.requires.apart)
    new c.in_default-rename.field-0 c.rename_all.result c.in_default-rename.ensures
    (subst (λ files. All (HoldsBeside old) (map file_of files)) files_are c.requires.hold)
    c.rename_all.ensures)
