-- What threads may share: what a plan supplies to its points, and the entries of its waits.
use denote.Ref.{NamedLft}
use denote.Param.Send.{IsSend, IsSync, sendable}
use Rattle.std.proofs.Crossing.{crosses}
use Rattle.std.proofs.MapsCrossing as maps
use Rattle.bit_rows.proofs.Crossing.{row_sync}
use Rattle.deb_relation.specs.contracts.relations.Entry as Entry
use Rattle.deb_relation.specs.contracts.relations.Relations as Relations
use Rattle.deb_version.specs.contracts.version.Version as Version
use Rattle.farm_universe.specs.contracts.binary.Package as Package
use Rattle.farm_universe.specs.contracts.recipe.Recipe as Recipe
use Rattle.farm_universe.specs.contracts.base.Base as Base
use Rattle.farm_universe.specs.contracts.universe.Universe as Universe
use Rattle.plan_reader.specs.contracts.plan.Plan as Plan
use Rattle.sat_rows.specs.contracts.tables.Tables as Tables
use Rattle.known_rows.specs.contracts.entries.Entries as Entries
use Rattle.known_rows.specs.contracts.supply.Supply as Supply

entry_sync : IsSync Entry.the_row
entry_sync = search (crosses, sendable) depth 60 fits 20000

relations_sync : IsSync Relations.the_row
relations_sync = let e = entry_sync in search (crosses, sendable) depth 60 fits 20000

version_sync : IsSync Version.the_row
version_sync = search (crosses, sendable) depth 60 fits 20000

-- the relations of a package stand in it as their fields do
package_sync : IsSync Package.the_row
package_sync = let r = relations_sync in let v = version_sync in search (crosses, sendable) depth 60
    fits 20000

recipe_sync : IsSync Recipe.the_row
recipe_sync = let r = relations_sync in search (crosses, sendable) depth 60 fits 20000

base_sync : IsSync Base.the_row
base_sync = search (crosses, sendable) depth 60 fits 20000

pub universe_sync : IsSync Universe.the_row
universe_sync =
    let p = package_sync in
    let r = recipe_sync in
    let b = base_sync in
    search (maps.crosses, crosses, sendable) depth 60 fits 50000

pub plan_sync : IsSync Plan.the_row
plan_sync = let e = entry_sync in search (crosses, sendable) depth 60 fits 50000

pub tables_sync : IsSync Tables.the_row
tables_sync = let u = universe_sync in let r = row_sync in search (maps.crosses, crosses, sendable) depth 60 fits 50000

pub supply_sync : (a : NamedLft) → IsSync (Supply.the_row a)
supply_sync a =
    let u = universe_sync in
    let p = plan_sync in
    let t = tables_sync in
    search (crosses, sendable) depth 60 fits 50000

pub supply_send : (a : NamedLft) → IsSend (Supply.the_row a)
supply_send a =
    let u = universe_sync in
    let p = plan_sync in
    let t = tables_sync in
    search (crosses, sendable) depth 60 fits 50000

pub entries_sync : (a : NamedLft) → IsSync (Entries.the_row a)
entries_sync a = let e = entry_sync in search (crosses, sendable) depth 60 fits 50000
