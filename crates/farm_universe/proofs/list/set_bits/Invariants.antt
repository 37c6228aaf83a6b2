use Rattle.std.proofs.Common.{◌≡◌, length, drop}
use Rattle.farm_universe.specs.FarmSteps.{taken_with}
use Rattle.farm_universe.proofs.list.set_bits.Given as goal

abbrev pub invariant-loop-variant : goal.invariant-loop-variant
invariant-loop-variant l = record {
  so_far : taken_with l.words.items (drop l.variant-index l.variants)
      ≡ taken_with l.initial.words.items l.variants;
  long : length l.words.items ≡ length l.initial.words.items;
}
