use Rattle.std.proofs.Common.{◌≡◌, false}
use Rattle.std.specs.Prelude.{◌&&◌}
use Rattle.farm_model.specs.Common.{some_below, variant, word_has, satisfies_entry}
use Rattle.farm_archive.proofs.wait.some_satisfies.Given as goal

abbrev pub invariant-loop-bit : goal.invariant-loop-bit
invariant-loop-bit l =
    some_below l.bit (λ b. word_has l.word b && satisfies_entry l.universe l.entry
    (variant l.name b))
    ≡ false
