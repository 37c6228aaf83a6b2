use Rattle.std.proofs.Common.{sym, ◌∙◌, arith}
use Rattle.std.specs.Prelude.{◌&&◌}
use Rattle.farm_model.specs.Packages.{variant, variants, word_has, satisfies_entry}
use Rattle.farm_model.proofs.BelowLaws.{some_below-at}
use Rattle.farm_archive.proofs.wait.some_satisfies.Goals as goal

pub returns-then-has_satisfying : goal.returns-then-has_satisfying
returns-then-has_satisfying c =
    sym
    (some_below-at (variants c.args.universe.now c.args.name)
    (λ b. word_has c.args.word b
    && satisfies_entry c.args.universe.now c.args.entry.now (variant c.args.name b))
    c.loop-bit.bit (omega arith)
    (sym c.has_satisfying.ensures ∙ c.if-has_satisfying.true))
