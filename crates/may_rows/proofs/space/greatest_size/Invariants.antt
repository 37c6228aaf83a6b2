use Rattle.std.proofs.Common.{◌≡◌, ◌≤◌}
use Rattle.farm_model.specs.Common.{greatest_below, variant, size}
use Rattle.farm_universe.specs.declared.limits.TheConstants.{MOST_SIZE}
use Rattle.clause_kernel.specs.Rows.{word_has}
use Rattle.may_rows.proofs.space.greatest_size.Given as goal

abbrev pub invariant-loop-bit : goal.invariant-loop-bit
invariant-loop-bit l = record {
  greatest : l.greatest
      ≡ greatest_below l.bit (word_has l.set) (λ b. size l.universe (variant l.name b));
  small : l.greatest ≤ MOST_SIZE;
}
