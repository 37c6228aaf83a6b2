use Rattle.std.proofs.Common.{◌≡◌, false}
use Rattle.farm_model.specs.Common.{some_below, variant}
use Rattle.rest_farm.specs.Odds.{is_wrong}
use Rattle.rest_farm.proofs.continuation.name_is_wrong.Given as goal

abbrev pub invariant-loop-bit : goal.invariant-loop-bit
invariant-loop-bit l =
    some_below l.bit
    (λ b. is_wrong l.of.left.now l.of.brought.now l.of.gone.now l.farm (variant l.name b))
    ≡ false
