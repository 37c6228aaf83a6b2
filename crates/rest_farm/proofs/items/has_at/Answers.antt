use Rattle.std.proofs.Common.{sym, ◌∙◌}
use Rattle.rest_farm.proofs.ItemLaws.{at-listed}
use Rattle.rest_farm.specs.Items.{is_item, item_named}
use Rattle.rest_farm.proofs.items.has_at.Goals as goal

pub returns-clause-found : goal.returns-clause-found
returns-clause-found c = λ yes.
    at-listed (is_item (item_named c.args.name.now c.args.version.now)) c.args.list.now
    c.args.place (sym c.is_at.ensures ∙ yes)

pub returns-clause-none : goal.returns-clause-none
returns-clause-none c = λ no. sym c.is_at.ensures ∙ no
