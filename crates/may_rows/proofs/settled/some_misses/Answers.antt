use Rattle.std.proofs.Common.{sym, ◌∙◌, arith}
use Rattle.farm_model.specs.Packages.{names}
use Rattle.farm_model.proofs.BelowLaws.{some_below-at}
use Rattle.may_rows.specs.Words.{may_of}
use Rattle.may_rows.specs.Met.{misses_at}
use Rattle.may_rows.proofs.settled.some_misses.Goals as goal

pub returns-then-misses_at : goal.returns-then-misses_at
returns-then-misses_at c =
    sym
    (some_below-at (names c.args.universe.now)
    (misses_at c.args.universe.now (may_of c.args.state.now)) c.loop-name.name
    (omega arith) (sym c.misses_at.ensures ∙ c.if-misses_at.true))
