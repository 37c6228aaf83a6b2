use Rattle.std.proofs.Common.{◌≡◌, ◌++◌, length, All, filter_map}
use Rattle.farm_model.specs.Sound.{IsKnown}
use Rattle.farm_universe.specs.Items.{item_variant}
use Rattle.explain_faults.proofs.parts.push_variants.Given as goal

abbrev pub invariant-loop-item : goal.invariant-loop-item
invariant-loop-item l = record {
  same : l.initial.variants.items ++ filter_map (item_variant l.universe) l.fn.items
      ≡ l.variants.items ++ filter_map (item_variant l.universe) l.items;
  known : All (IsKnown l.universe) l.variants.items;
}

abbrev pub decreases-loop-item : goal.decreases-loop-item
decreases-loop-item l = length l.items
