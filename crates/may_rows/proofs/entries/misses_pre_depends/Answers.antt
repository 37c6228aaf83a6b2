use Rattle.std.proofs.Common.{not, [], ◌∙◌}
use Rattle.farm_model.specs.Packages.{pre_depends}
use Rattle.plan_model.specs.May.{surely_met}
use Rattle.may_rows.specs.Words.{may_of}
use Rattle.may_rows.proofs.ByNumber.{any-numbers}
use Rattle.may_rows.proofs.entries.misses_pre_depends.Goals as goal

pub returns : goal.returns
returns c =
    c.some_number.ensures
    ∙ any-numbers (λ e. not (surely_met c.args.universe.now (may_of c.args.state.now) e)) []
    (pre_depends c.args.universe.now c.args.variant)
