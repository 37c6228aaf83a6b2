use Rattle.std.proofs.Common.{sym, ap, ◌∙◌}
use Rattle.leg_laws.specs.Named.{is_equal_item}
use Rattle.rest_farm.proofs.ItemLaws.{variant-named}
use Rattle.rest_farm.proofs.judgement.is_variant.Goals as goal

pub returns : goal.returns
returns c = λ yes.
    sym (c.is_of.ensures
    ∙ ap (is_equal_item c.args.item.now)
    (variant-named c.args.farm.now c.args.variant c.name_text.result.now c.version.result.now
    c.name_text.ensures c.version.ensures))
    ∙ yes
