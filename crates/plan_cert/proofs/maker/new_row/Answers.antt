use Rattle.std.proofs.Common.{sym, subst}
use Rattle.farm_model.specs.Universe.{Universe}
use Rattle.sat_rows.specs.Rows.{IsRowOf}
use Rattle.known_rows.specs.KnownRows.{rows_of}
use Rattle.plan_cert.proofs.NewRows.{row-new-at}
use Rattle.plan_cert.proofs.maker.new_row.Goals as goal

pub returns-clause-exact : goal.returns-clause-exact
returns-clause-exact c =
    let u = c.args.making.known.now.universe in
    let known = rows_of c.args.making.known.now in
    let l = c.args.number in
    let i = c.args.place in
    row-new-at u c.args.making.known.now.plan known c.args.making.sound c.requires.keeps l i
    c.requires.lane
    c.requires.place c.in_ok-row.row c.args.making.archive.now c.take_out.new.self
    (subst (λ (w : Universe). IsRowOf w (known l i) c.in_ok-row.row) (sym c.args.making.of_universe)
    c.in_ok-row.ensures)
    c.args.making.archive_is c.take_out.ensures.set
