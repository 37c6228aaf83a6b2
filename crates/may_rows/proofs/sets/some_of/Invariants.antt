use Rattle.std.proofs.Common.{◌≡◌, false}
use Rattle.std.specs.Prelude.{◌&&◌}
use Rattle.farm_model.specs.Common.{some_below, variant}
use Rattle.clause_kernel.specs.Rows.{word_has}
use Rattle.may_rows.proofs.sets.some_of.Given as goal

abbrev pub invariant-loop-bit : goal.invariant-loop-bit
invariant-loop-bit g l =
    some_below l.bit (λ b. word_has l.set b && g.T.VariantTest.test l.universe l.test
    (variant l.name b))
    ≡ false
