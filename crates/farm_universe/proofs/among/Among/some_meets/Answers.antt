use Rattle.std.proofs.Common.{◌∙◌}
use Rattle.deb_relation.specs.Satisfaction.{package_satisfies}
use Rattle.farm_universe.specs.Among.{is_another_member}
use Rattle.farm_universe.specs.BaseText.{Member, member_facts}
use Rattle.farm_universe.proofs.AmongLaws.{any-swap}
use Rattle.farm_universe.proofs.among.Among.some_meets.Goals as goal

pub returns : goal.returns
returns c =
    c.any_satisfied.ensures
    ∙ any-swap (is_another_member c.args.besides)
    (λ (m : Member). package_satisfies (member_facts m))
    c.args.self.now
    c.args.entry.now
