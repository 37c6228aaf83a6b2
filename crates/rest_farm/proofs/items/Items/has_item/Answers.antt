use Rattle.std.proofs.Common.{ap, ◌∙◌}
use Rattle.leg_laws.specs.Named.{is_listed}
use Rattle.rest_farm.proofs.ItemLaws.{named-same}
use Rattle.rest_farm.proofs.items.Items.has_item.Goals as goal

pub returns : goal.returns
returns c =
    c.has.ensures
    ∙ ap (is_listed c.args.self.now)
    (named-same c.name.result.now c.version.result.now c.args.item.now c.name.ensures
    c.version.ensures)
