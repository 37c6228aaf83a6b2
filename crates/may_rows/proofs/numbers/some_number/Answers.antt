use Rattle.std.proofs.Common.{sym, ◌∙◌, arith}
use Rattle.farm_model.proofs.BelowLaws.{some_below-at}
use Rattle.may_rows.proofs.numbers.some_number.Goals as goal

pub returns-then-passes : goal.returns-then-passes
returns-then-passes g c =
    sym
    (some_below-at (g.T.NumberTest.count c.args.universe.now c.args.test.now)
    (g.T.NumberTest.test c.args.universe.now c.args.test.now) c.loop-number.number (omega arith)
    (sym c.passes.ensures ∙ c.if-passes.true))
