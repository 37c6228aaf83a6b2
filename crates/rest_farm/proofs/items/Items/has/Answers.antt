use Rattle.std.proofs.Common.{List, subst}
use Rattle.leg_laws.specs.Named.{Item}
use Rattle.rest_farm.specs.Items.{AreKeyed, is_item, item_key, item_named}
use Rattle.rest_farm.proofs.ItemLaws.{has-told, item-name}
use Rattle.rest_farm.proofs.items.Items.has.Goals as goal

pub returns : goal.returns
returns c =
    let wanted = item_named c.args.name.now c.args.version.now in
    has-told (is_item wanted) item_key wanted.name (item-name wanted) c.args.self.now
    c.self.inside.index
    (subst (λ (items : List Item). AreKeyed item_key items c.self.inside.index) c.self.view_is
    c.self.invariant)
    c.list.result.now c.listed.result.now c.some_has.result c.list.ensures c.listed.ensures
    c.some_has.ensures.found c.some_has.ensures.none
