use Rattle.std.proofs.Common.{subst}
use Rattle.farm_model.specs.Packages.{recipe, satisfies_any}
use Rattle.sat_rows.specs.Rows.{IsRowOf}
use Rattle.may_rows.proofs.build.may_clash.Goals as goal

pub returns : goal.returns
returns c =
    let u = c.args.of.universe.now in
    let row =
    subst (λ t. IsRowOf t (satisfies_any t (recipe t c.args.recipe).clashes) c.clashes.result.now)
    c.args.of.tables_are c.clashes.ensures in
    c.may_hit.ensures u (satisfies_any u (recipe u c.args.recipe).clashes) c.requires.state row
