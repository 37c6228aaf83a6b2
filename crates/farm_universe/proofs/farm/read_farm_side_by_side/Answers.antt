use Rattle.farm_universe.specs.Before.{before_farm}
use Rattle.farm_universe.specs.FarmView.{land_view}
use Rattle.farm_universe.specs.SourceView.{source_view}
use Rattle.farm_universe.specs.TableView.{table_view}
use Rattle.farm_universe.proofs.BeforeLaws.{before-land, refuses-leaves}
use Rattle.farm_universe.proofs.farm.read_farm_side_by_side.Goals as goal

pub returns-in-Err-clause-before : goal.returns-in-Err-clause-before
returns-in-Err-clause-before g c =
    let table = table_view c.args.table in
    let sources = source_view c.args.sources in
    let land = land_view c.in_ok-land.land in
    refuses-leaves c.refuse.result c.in-Err.fault land c.refuse.ensures
    (before_farm table sources c.args.paragraphs.now)
    (before-land table sources c.args.paragraphs.now land c.in_ok-land.ensures.read)
