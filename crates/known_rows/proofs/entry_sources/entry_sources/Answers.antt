use Rattle.std.proofs.Common.{◌≡◌, ℕ, List, sym, subst, ◌∙◌}
use Rattle.std.proofs.lemmas.Option.{same_Some}
use Rattle.deb_relation.specs.Relations.{Entry}
use Rattle.farm_model.specs.Common.{Universe, satisfies_entry}
use Rattle.sat_rows.specs.Rows.{IsRowOf}
use Rattle.known_rows.proofs.entry_sources.entry_sources.Goals as goal

-- the row that the tables gave is one of this universe
row_is : (t u : Universe) (e g : Entry) (row : List ℕ) → t ≡ u → g ≡ e
    → IsRowOf t (satisfies_entry t g) row → IsRowOf u (satisfies_entry u e) row
row_is t u e g row same entry is =
    subst (λ v. IsRowOf v (satisfies_entry v e) row) same
    (subst (λ f. IsRowOf t (satisfies_entry t f) row) entry is)

pub returns : goal.returns
returns c e at =
    let u = c.args.supply.universe.now in
    let g = c.entry.result.now in
    c.in_ok-sources_of.ensures (satisfies_entry u e)
    (row_is c.args.supply.tables.now u e g c.in_ok-row.row c.requires.supply.tables_are
    (same_Some g e (sym c.entry.ensures ∙ at)) c.in_ok-row.ensures)
