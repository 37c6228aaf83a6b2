use Rattle.std.proofs.Common.{◌≡◌, ◌++◌, All}
use Rattle.clause_kernel.specs.Rows.{word_has}
use Rattle.farm_model.specs.Common.{variant, IsKnown}
use Rattle.explain_reasons.specs.Listed.{all_below, one_if}
use Rattle.explain_reasons.proofs.held.push_variants.Given as goal

abbrev pub invariant-loop-bit : goal.invariant-loop-bit
invariant-loop-bit l = record {
  held : l.held.items ≡ l.initial.held.items
      ++ all_below l.bit (λ b. one_if (word_has l.set b) (variant l.name b));
  known : All (IsKnown l.universe) l.initial.held.items
      → All (IsKnown l.universe) l.held.items;
}
