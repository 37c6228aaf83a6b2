use Rattle.std.proofs.Common.{subst}
use Rattle.sat_rows.specs.Found.{HasItems}
use Rattle.sat_rows.proofs.FoundLaws.{finds_listed}
use Rattle.sat_rows.proofs.found.Found.add_listed.Goals as goal

pub returns : goal.returns
returns g c =
    let u = c.args.universe.now in
    let field = g.F.Field.field in
    let test = g.T.AtomTest.test c.args.test.now in
    let new = c.add_items.new.self in
    let put = c.in_ok-add_items.ensures in
    finds_listed u field test c.args.index.now c.args.name.now c.args.self.now new c.requires.index
    c.requires.named put.grows
    (subst (λ items. HasItems u field test items new) c.listed.ensures put.has)
