use Rattle.std.proofs.Common.{ap, ◌∙◌}
use Rattle.std.specs.Prelude.{◌&&◌}
use Rattle.std.specs.Option.{is_some}
use Rattle.farm_model.specs.Packages.{variant, variants, has_bit, is_wanted}
use Rattle.plan_model.specs.Turn.{newest, has_wanted}
use Rattle.farm_laws.proofs.Archive.{some-highest}
use Rattle.farm_core.proofs.pick.has_wanted.Goals as goal

pub returns : goal.returns
unfolding newest has_wanted
returns c =
    c.is_some.ensures ∙ ap is_some c.newest.ensures
    ∙ some-highest (variants c.args.universe.now c.args.name)
    (λ b. has_bit c.args.archive.now.words (variant c.args.name b)
    && is_wanted c.args.universe.now c.args.relation.now (variant c.args.name b))
