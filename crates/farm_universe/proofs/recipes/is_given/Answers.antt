use Rattle.std.proofs.Common.{◌∙◌, ap}
use Rattle.std.specs.List.{list_any}
use Rattle.farm_universe.proofs.RecipeLaws.{has_name, named_is}
use Rattle.farm_universe.proofs.recipes.is_given.Goals as goal

pub returns : goal.returns
returns c =
    let name = c.args.name.now in
    let list = c.args.list.now in
    c.some_has_name.ensures
    ∙ ap (λ rs. list_any (has_name rs name) c.listed.result.now) c.deref.ensures.value
    ∙ ap (list_any (has_name list.recipes.items name)) c.listed.ensures
    ∙ named_is list.by_name list.recipes.items name c.requires
