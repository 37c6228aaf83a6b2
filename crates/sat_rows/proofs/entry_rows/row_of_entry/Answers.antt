use Rattle.farm_model.specs.Packages.{satisfies_entry}
use Rattle.sat_rows.proofs.entry_rows.row_of_entry.Goals as goal

pub returns : goal.returns
returns c =
    c.in_ok-row_of_found.ensures.set (satisfies_entry c.args.universe.now c.args.entry.now)
    c.in_ok-found.ensures
