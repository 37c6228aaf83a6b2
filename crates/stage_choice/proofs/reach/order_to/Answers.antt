use Rattle.std.proofs.Common.{sym, subst}
use Rattle.stage_choice.specs.Orders.{AreReached, IsWhole}
use Rattle.stage_choice.proofs.OrderLaws.{way_found, way_lacks}
use Rattle.stage_choice.proofs.reach.order_to.Goals as goal

pub returns-clause-found : goal.returns-clause-found
returns-clause-found c =
    let builds = c.args.builds.now in
    let reached = subst (AreReached builds) (sym c.order.ensures) c.in_ok-made.ensures.made.reached in
    way_found builds c.order.result.now c.args.end reached c.ahead_of.result (λ v. v.items)
    c.ahead_of.ensures

pub returns-clause-none : goal.returns-clause-none
returns-clause-none c =
    let builds = c.args.builds.now in
    let whole = subst (IsWhole builds) (sym c.order.ensures) c.in_ok-made.ensures.whole in
    way_lacks builds c.order.result.now c.args.end whole c.ahead_of.result (λ v. v.items)
    c.ahead_of.ensures
