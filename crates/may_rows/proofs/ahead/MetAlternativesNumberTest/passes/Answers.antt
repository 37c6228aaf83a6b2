use Rattle.std.proofs.Common.{sym, ap, ◌∙◌}
use Rattle.may_rows.specs.Words.{alternative_inside}
use Rattle.may_rows.proofs.ahead.MetAlternativesNumberTest.passes.Goals as goal

pub returns : goal.returns
returns c =
    c.both_satisfy.ensures
    ∙ ap (alternative_inside c.args.universe.now c.args.self.now.state.now.both)
    (sym c.alternative.ensures)
