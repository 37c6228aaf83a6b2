use Rattle.std.proofs.Common.{◌∙◌}
use Rattle.farm_model.specs.Packages.{satisfies}
use Rattle.may_rows.specs.Words.{some_name_inside}
use Rattle.may_rows.proofs.ByNumber.{any-got}
use Rattle.may_rows.proofs.ahead.meets_alternative.Goals as goal

pub returns : goal.returns
returns c =
    let u = c.args.universe.now in
    c.some_number.ensures
    ∙ any-got (λ a. some_name_inside u c.args.state.now.both (satisfies u a)) c.args.entry.now
