use Rattle.std.proofs.Common.{◌<◌, ◌∙◌, sym, ap, length, []}
use Rattle.std.specs.Global.{Vec}
use Rattle.std.proofs.lemmas.List.{length-map, get_or-map}
use Rattle.std.proofs.lemmas.List.Elements.{All-get_or}
use Rattle.farm_universe.specs.TableView.{table_view, IsOrderly}
use Rattle.farm_model.specs.Universe.{Package}
use Rattle.farm_universe.proofs.package_table.packages_at.Goals as goal

pub returns-clause-few : goal.returns-clause-few
returns-clause-few c =
    let vs = c.args.table.now.packages.items in
    let lt : c.args.number < length vs = rw length-map at c.requires.within in
    let is =
    c.deref.ensures.value ∙ ap (λ (v : Vec Package). v.items) c.index.ensures
    ∙ sym (get_or-map (λ (v : Vec Package). v.items) vs c.args.number c.index.result.now [] lt) in
    rw is (All-get_or IsOrderly (table_view c.args.table.now).packages c.args.number []
    c.requires.within c.requires.fit.orderly).few
