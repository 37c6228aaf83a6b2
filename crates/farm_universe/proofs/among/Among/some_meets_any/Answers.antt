use Rattle.std.proofs.Common.{◌∙◌}
use Rattle.farm_universe.specs.Among.{is_another_member}
use Rattle.farm_universe.specs.BaseText.{member_meets}
use Rattle.farm_universe.proofs.AmongLaws.{any-swap}
use Rattle.farm_universe.proofs.among.Among.some_meets_any.Goals as goal

pub returns : goal.returns
returns c =
    c.any_met.ensures
    ∙ any-swap (is_another_member c.args.besides) member_meets c.args.self.now c.args.field.now
