use Rattle.farm_universe.specs.Before.{before_of, before_text}
use Rattle.farm_universe.specs.SourceView.{source_view}
use Rattle.farm_universe.specs.TableView.{table_view}
use Rattle.farm_universe.specs.UniverseText.{sources_at, table_at}
use Rattle.farm_universe.proofs.BeforeLaws.{behind-sources, kept-leaves, none-behind-sources, none-behind-table, told-leaves}
use Rattle.farm_universe.proofs.universe.Universe.read_side_by_side.Goals as goal

pub returns-in_err-table-clause-before : goal.returns-in_err-table-clause-before
returns-in_err-table-clause-before g c =
    let packages = c.args.packages.now in
    let sources = c.args.sources.now in
    let farm = c.args.farm.now in
    let fails = rw c.in_err-table.was at c.read_packages_beside_sources-table.ensures.packages in
    told-leaves c.from_residual.result c.in_err-table.field-0.0 (table_at packages)
    (before_of packages sources farm) c.from_residual.ensures.1 fails
    (none-behind-table packages sources farm)

pub returns-in_err-sources-clause-before : goal.returns-in_err-sources-clause-before
returns-in_err-sources-clause-before g c =
    let packages = c.args.packages.now in
    let sources = c.args.sources.now in
    let farm = c.args.farm.now in
    let table = rw c.in_ok-table.was at c.read_packages_beside_sources-table.ensures.packages in
    let fails = rw c.in_err-sources.was at c.read_packages_beside_sources-table.ensures.sources in
    told-leaves c.from_residual-in_err-sources.result c.in_err-sources.field-0.0
    (sources_at sources) (before_of packages sources farm)
    c.from_residual-in_err-sources.ensures.1 fails
    (none-behind-sources packages sources farm (table_view c.in_ok-table.table) table)

pub returns-in_err-farm-clause-before : goal.returns-in_err-farm-clause-before
returns-in_err-farm-clause-before g c =
    let packages = c.args.packages.now in
    let sources = c.args.sources.now in
    let farm = c.args.farm.now in
    let table = rw c.in_ok-table.was at c.read_packages_beside_sources-table.ensures.packages in
    let listed = rw c.in_ok-sources.was at c.read_packages_beside_sources-table.ensures.sources in
    kept-leaves c.from_residual-in_err-farm.result c.in_err-farm.field-0.0
    (before_text (table_view c.in_ok-table.table) (source_view c.in_ok-sources.sources) farm)
    (before_of packages sources farm) c.from_residual-in_err-farm.ensures.1
    c.in_err-farm.ensures.before
    (behind-sources packages sources farm (table_view c.in_ok-table.table)
    (source_view c.in_ok-sources.sources) table listed)
