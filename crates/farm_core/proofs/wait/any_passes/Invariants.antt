use Rattle.std.proofs.Common.{◌≡◌, false}
use Rattle.std.specs.Prelude.{◌&&◌}
use Rattle.farm_model.specs.Common.{some_below, variant, variants, has_bit, satisfies_entry}
use Rattle.farm_core.proofs.wait.any_passes.Given as goal

abbrev pub invariant-loop-name : goal.invariant-loop-name
invariant-loop-name l =
    some_below l.name
    (λ n. some_below (variants l.universe n)
    (λ b. has_bit l.archive.words (variant n b)
    && satisfies_entry l.universe l.entry (variant n b)))
    ≡ false
