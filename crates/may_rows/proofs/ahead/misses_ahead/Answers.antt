use Rattle.std.proofs.Common.{not, [], ◌∙◌}
use Rattle.farm_model.specs.Packages.{pre_depends}
use Rattle.may_rows.specs.Words.{may_of, surely_met_ahead}
use Rattle.may_rows.proofs.ByNumber.{any-numbers}
use Rattle.may_rows.proofs.ahead.misses_ahead.Goals as goal

pub returns : goal.returns
returns c =
    c.some_number.ensures
    ∙ any-numbers (λ e. not (surely_met_ahead c.args.universe.now (may_of c.args.state.now) e)) []
    (pre_depends c.args.universe.now c.args.variant)
