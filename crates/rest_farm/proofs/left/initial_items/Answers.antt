use Rattle.std.proofs.Common.{List, ap, ◌∙◌}
use Rattle.std.proofs.lemmas.Result.{IfOk-weaker}
use Rattle.leg_laws.specs.Named.{Item, is_listed}
use Rattle.rest_farm.proofs.left.initial_items.Goals as goal

pub returns : goal.returns
returns c =
    IfOk-weaker c.of.result _ _
    (λ items is item. ap (λ (xs : List Item). is_listed xs item) is ∙ c.in_ok-list.ensures item)
    c.of.ensures
