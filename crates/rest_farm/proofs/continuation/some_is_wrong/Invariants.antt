use Rattle.std.proofs.Common.{◌≡◌, false}
use Rattle.farm_model.specs.Common.{some_below, variant, variants}
use Rattle.rest_farm.specs.Odds.{is_wrong}
use Rattle.rest_farm.proofs.continuation.some_is_wrong.Given as goal

abbrev pub invariant-loop-name : goal.invariant-loop-name
invariant-loop-name l =
    some_below l.name
    (λ n. some_below (variants l.farm n)
    (λ b. is_wrong l.of.left.now l.of.brought.now l.of.gone.now l.farm (variant n b)))
    ≡ false
