use Rattle.std.proofs.Common.{ap, ◌∙◌}
use Rattle.leg_laws.specs.Named.{is_listed}
use Rattle.rest_farm.proofs.ItemLaws.{variant-named}
use Rattle.rest_farm.proofs.items.Items.has_variant.Goals as goal

pub returns : goal.returns
returns c =
    c.has.ensures
    ∙ ap (is_listed c.args.self.now)
    (variant-named c.args.universe.now c.args.variant c.name_text.result.now c.version.result.now
    c.name_text.ensures c.version.ensures)
