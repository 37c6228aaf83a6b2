use Rattle.std.proofs.Common.{◌<◌, length, arith, ap, sym, Some}
use Rattle.deb_text.specs.declared.files.TheConstants.{FARM}
use Rattle.deb_stanza.specs.Stanza.{paragraph_at}
use Rattle.farm_universe.specs.Before.{bare_land, universe_on}
use Rattle.farm_universe.specs.FarmText.{head_at}
use Rattle.farm_universe.specs.FarmView.{land_view}
use Rattle.farm_universe.specs.SourceView.{source_view}
use Rattle.farm_universe.specs.TableView.{table_view}
use Rattle.farm_universe.specs.Told.{told}
use Rattle.farm_universe.proofs.BeforeLaws.{bare-leaves, land-fails, leaves-empty, refuses-fails, refuses-leaves}
use Rattle.farm_universe.proofs.farm.read_land.Goals as goal

pub returns-then-count-eq0-clause-before : goal.returns-then-count-eq0-clause-before
returns-then-count-eq0-clause-before c =
    leaves-empty (table_view c.args.table) (source_view c.args.sources) c.args.paragraphs.now
    c.from.result c.place.result c.from.ensures
    (omega (arith, c.count.ensures, c.if-count-eq0.true))

pub returns-in_ok-land-in-Err-clause-read : goal.returns-in_ok-land-in-Err-clause-read
returns-in_ok-land-in-Err-clause-read c =
    let table = table_view c.args.table in
    let ps = c.args.paragraphs.now in
    let there : 0 < length ps = omega (arith, c.count.ensures, c.if-count-eq0.false) in
    let head = rw c.new.ensures at c.in-Err.ensures.read in
    land-fails table (source_view c.args.sources) ps c.refuse.result there
    (refuses-fails c.refuse.result c.in-Err.fault (land_view c.in_ok-land-in-Err.land)
    c.refuse.ensures (told FARM (paragraph_at ps 0) (head_at table (paragraph_at ps 0))) head)

pub returns-in_ok-land-in-Err-clause-before : goal.returns-in_ok-land-in-Err-clause-before
returns-in_ok-land-in-Err-clause-before c =
    let table = table_view c.args.table in
    let sources = source_view c.args.sources in
    let ps = c.args.paragraphs.now in
    let there : 0 < length ps = omega (arith, c.count.ensures, c.if-count-eq0.false) in
    let head = rw c.new.ensures at c.in-Err.ensures.read in
    let land = land_view c.in_ok-land-in-Err.land in
    bare-leaves table sources ps c.refuse.result there
    (refuses-fails c.refuse.result c.in-Err.fault land c.refuse.ensures
    (told FARM (paragraph_at ps 0) (head_at table (paragraph_at ps 0))) head)
    (refuses-leaves c.refuse.result c.in-Err.fault land c.refuse.ensures
    (Some (universe_on (bare_land table sources)))
    (ap (λ land. Some (universe_on land)) (sym c.in_ok-land-in-Err.ensures.bare)))
