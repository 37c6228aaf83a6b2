use Rattle.farm_universe.specs.Before.{before_of, before_text}
use Rattle.farm_universe.specs.SourceView.{source_view}
use Rattle.farm_universe.specs.TableView.{table_view}
use Rattle.farm_universe.specs.UniverseText.{sources_at, table_at}
use Rattle.farm_universe.proofs.BeforeLaws.{behind-sources, kept-leaves, none-behind-sources, none-behind-table, told-leaves}
use Rattle.farm_universe.proofs.universe.Universe.read.Goals as goal

pub returns-in_err-table-clause-before : goal.returns-in_err-table-clause-before
returns-in_err-table-clause-before c =
    let packages = c.args.packages.now in
    let sources = c.args.sources.now in
    let farm = c.args.farm.now in
    told-leaves c.from_residual.result c.in_err-table.field-0.0 (table_at packages)
    (before_of packages sources farm) c.from_residual.ensures.1 c.in_err-table.ensures.read
    (none-behind-table packages sources farm)

pub returns-in_err-sources-clause-before : goal.returns-in_err-sources-clause-before
returns-in_err-sources-clause-before c =
    let packages = c.args.packages.now in
    let sources = c.args.sources.now in
    let farm = c.args.farm.now in
    told-leaves c.from_residual-in_err-sources.result c.in_err-sources.field-0.0
    (sources_at sources) (before_of packages sources farm)
    c.from_residual-in_err-sources.ensures.1 c.in_err-sources.ensures.read
    (none-behind-sources packages sources farm (table_view c.in_ok-table.table)
    c.in_ok-table.ensures.read)

pub returns-in_err-read_farm_text-clause-before : goal.returns-in_err-read_farm_text-clause-before
returns-in_err-read_farm_text-clause-before c =
    let packages = c.args.packages.now in
    let sources = c.args.sources.now in
    let farm = c.args.farm.now in
    let table = table_view c.in_ok-table.table in
    let listed = source_view c.in_ok-sources.sources in
    kept-leaves c.from_residual-in_err-read_farm_text.result c.in_err-read_farm_text.field-0.0
    (before_text table listed farm) (before_of packages sources farm)
    c.from_residual-in_err-read_farm_text.ensures.1 c.in_err-read_farm_text.ensures.before
    (behind-sources packages sources farm table listed c.in_ok-table.ensures.read
    c.in_ok-sources.ensures.read)
