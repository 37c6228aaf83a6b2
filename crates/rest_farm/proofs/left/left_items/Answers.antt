use Rattle.std.proofs.Common.{◌≡◌, List, ap, subst, ◌∙◌}
use Rattle.std.proofs.lemmas.Result.{IfOk-weaker}
use Rattle.farm_model.specs.Common.{Universe}
use Rattle.leg_laws.specs.Named.{Item, is_listed, was_there}
use Rattle.rest_farm.proofs.left.left_items.Goals as goal

pub returns : goal.returns
returns c =
    IfOk-weaker c.of.result _ _
    (λ items is item. ap (λ (xs : List Item). is_listed xs item) is
    ∙ subst (λ (u : Universe). is_listed c.in_ok-list.list.items item
    ≡ was_there u c.args.run.now.state item) c.universe.ensures (c.in_ok-list.ensures item))
    c.of.ensures
