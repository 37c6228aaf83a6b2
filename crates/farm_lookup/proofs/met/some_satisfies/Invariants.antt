use Rattle.std.proofs.Common.{◌≡◌, false}
use Rattle.farm_model.specs.Common.{some_below, variant, satisfies}
use Rattle.farm_lookup.proofs.met.some_satisfies.Given as goal

abbrev pub invariant-loop-bit : goal.invariant-loop-bit
invariant-loop-bit l =
    some_below l.bit (λ b. satisfies l.universe l.atom (variant l.name b)) ≡ false
