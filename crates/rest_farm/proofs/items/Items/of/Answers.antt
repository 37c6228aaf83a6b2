use Rattle.std.proofs.Common.{List, subst}
use Rattle.leg_laws.specs.Named.{Item}
use Rattle.rest_farm.specs.Items.{AreKeyed, item_key}
use Rattle.rest_farm.proofs.items.Items.of.Goals as goal

pub invariant_of-result : goal.invariant_of-result
invariant_of-result c =
    subst (λ (items : List Item). AreKeyed item_key items c.in_ok-index.index)
    c.deref.ensures.value c.in_ok-index.ensures
