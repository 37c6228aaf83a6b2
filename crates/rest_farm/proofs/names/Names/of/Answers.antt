use Rattle.std.proofs.Common.{ℕ, List, subst}
use Rattle.rest_farm.specs.Items.{AreKeyed, name_key}
use Rattle.rest_farm.proofs.names.Names.of.Goals as goal

pub invariant_of-result : goal.invariant_of-result
invariant_of-result c =
    subst (λ (names : List (List ℕ)). AreKeyed name_key names c.in_ok-index.index)
    c.deref.ensures.value c.in_ok-index.ensures
