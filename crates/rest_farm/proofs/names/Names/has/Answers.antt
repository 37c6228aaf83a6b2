use Rattle.std.proofs.Common.{ℕ, List, subst}
use Rattle.rest_farm.specs.Items.{AreKeyed, is_name, name_key}
use Rattle.rest_farm.proofs.ItemLaws.{has-told, name-name}
use Rattle.rest_farm.proofs.names.Names.has.Goals as goal

pub returns : goal.returns
returns c =
    let wanted = c.args.bytes.now in
    has-told (is_name wanted) name_key wanted (name-name wanted) c.args.self.now
    c.self.inside.index
    (subst (λ (names : List (List ℕ)). AreKeyed name_key names c.self.inside.index)
    c.self.view_is c.self.invariant)
    c.list.result.now c.listed.result.now c.some_has.result c.list.ensures c.listed.ensures
    c.some_has.ensures.found c.some_has.ensures.none
