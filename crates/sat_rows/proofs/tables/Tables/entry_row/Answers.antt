use Rattle.std.proofs.Common.{sym, subst}
use Rattle.sat_rows.specs.Tables.{AreKept}
use Rattle.farm_model.specs.Packages.{satisfies_entry}
use Rattle.sat_rows.specs.Rows.{IsRowOf}
use Rattle.sat_rows.specs.Index.{IsProviding}
use Rattle.sat_rows.proofs.tables.Tables.entry_row.Goals as goal

pub row_of_entry-requires : goal.row_of_entry-requires
row_of_entry-requires c =
    let inside = c.self.inside in
    let kept = subst
    (λ u. AreKept u inside.names.items inside.needs.items inside.rows.items inside.conflicts
    inside.breaks
    inside.clashes.items inside.providers inside.empty inside.served) c.self.view_is
    c.self.invariant in
    subst (λ u. IsProviding u inside.providers) c.requires kept.providers

pub returns : goal.returns
returns c =
    let row = c.in_ok-row_of_entry.field-0 in
    subst (λ u. IsRowOf u (satisfies_entry u c.args.entry.now) row) (sym c.requires)
    (subst (λ e. IsRowOf c.args.universe.now (satisfies_entry c.args.universe.now e) row)
    c.alternatives.ensures c.in_ok-row_of_entry.ensures)
