use Rattle.std.proofs.Common.{ℕ, ◌<◌, []}
use Rattle.std.specs.Prelude.{slice_index_or}
use Rattle.farm_model.specs.Packages.{variant, package_of}
use Rattle.item_index.specs.Items.{item, KeepsItems, IsListed, IsListedField}
use Rattle.farm_lookup.proofs.candidates.add_name.Given as goal

abbrev pub invariant-loop-bit : goal.invariant-loop-bit
invariant-loop-bit l = record {
  kept : KeepsItems l.fn.index l.index;
  own : IsListed l.index (slice_index_or l.universe.names l.name []) (item l.name 0 0);
  provided : (b : ℕ) → b < l.bit
      → IsListedField l.index l.name (package_of l.universe (variant l.name b)).provides;
}
