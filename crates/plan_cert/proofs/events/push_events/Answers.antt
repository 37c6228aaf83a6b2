use Rattle.std.proofs.Common.{◌≡◌, ◌++◌, map, sym, subst}
use Rattle.farm_model.specs.Packages.{outputs}
use Rattle.plan_model.specs.Order.{items_of}
use Rattle.plan_cert.specs.Events.{order_item_of}
use Rattle.plan_cert.proofs.EventLaws.{gives-each, gives-items}
use Rattle.plan_cert.proofs.events.push_events.Goals as goal

pub returns-in_ok-push_outputs-in-Publish-clause-each :
    goal.returns-in_ok-push_outputs-in-Publish-clause-each
returns-in_ok-push_outputs-in-Publish-clause-each c =
    gives-each c.args.universe.now c.args.plan.now.lanes c.args.number c.in-Publish.recipe
    c.args.events.now.items c.push_outputs.new.events.items c.requires.sound c.requires.each
    c.in_ok-push_outputs-in-Publish.ensures

pub returns-in_ok-push_outputs-in-Publish-clause-items :
    goal.returns-in_ok-push_outputs-in-Publish-clause-items
returns-in_ok-push_outputs-in-Publish-clause-items c =
    let u = c.args.universe.now in
    let p = c.args.plan.now.lanes in
    let l = c.args.number in
    let old = c.args.events.now.items in
    let new = c.push_outputs.new.events.items in
    subst (λ x. map (order_item_of p l) new ≡ map (order_item_of p l) old ++ items_of u x)
    (sym c.in-Publish.is)
    (gives-items p l (outputs u c.in-Publish.recipe) old new
    c.in_ok-push_outputs-in-Publish.ensures)
