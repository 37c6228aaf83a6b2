use Rattle.std.proofs.Common.{◌∙◌, ◌<◌, ap, length}
use Rattle.std.proofs.lemmas.List.{length-map}
use Rattle.std.specs.Global.{Vec}
use Rattle.deb_text.specs.Groups.{in_order}
use Rattle.deb_text.proofs.ListLaws.{lists-set}
use Rattle.farm_universe.specs.PackagesText.{is_below}
use Rattle.farm_model.specs.Universe.{Package}
use Rattle.farm_universe.proofs.package_table.put_there.Goals as goal

pub returns-clause-packages : goal.returns-clause-packages
returns-clause-packages c =
    let vs = c.args.table.now.packages.items in
    let lt : c.args.at < length vs = rw length-map at c.requires.within in
    lists-set vs c.args.at c.insert_in_order.new.given (in_order is_below c.args.binary)
    c.index_mut.result.now lt
    (c.in_ok-insert_in_order.ensures
    ∙ ap (λ (v : Vec Package). in_order is_below c.args.binary v.items) c.index_mut.ensures.value)
