use Rattle.std.proofs.Common.{◌≡◌, ◌≤◌}
use Rattle.std.specs.Prelude.{◌&&◌}
use Rattle.farm_model.specs.Common.{highest_below, variant, variants, is_wanted, word_has}
use Rattle.farm_archive.proofs.pick.newest.Given as goal

abbrev pub invariant-loop-bit : goal.invariant-loop-bit
invariant-loop-bit l = record {
  within : l.bit ≤ variants l.universe l.name;
  few : l.bit ≤ 64;
  rest : highest_below (variants l.universe l.name)
      (λ b. word_has l.word b && is_wanted l.universe l.relation (variant l.name b))
      ≡ highest_below l.bit
      (λ b. word_has l.word b && is_wanted l.universe l.relation (variant l.name b));
}

abbrev pub decreases-loop-bit : goal.decreases-loop-bit
decreases-loop-bit l = l.bit
