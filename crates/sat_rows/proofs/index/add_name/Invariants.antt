use Rattle.std.proofs.Common.{ℕ, ◌<◌}
use Rattle.farm_model.specs.Packages.{variant, package_of}
use Rattle.item_index.specs.Items.{KeepsItems, IsListedField}
use Rattle.sat_rows.proofs.index.add_name.Given as goal

abbrev pub invariant-loop-bit : goal.invariant-loop-bit
invariant-loop-bit g l = record {
  kept : KeepsItems l.fn.index l.index;
  names : (b : ℕ) → b < l.bit
      → IsListedField l.index (variant l.name b)
      (g.F.Field.field (package_of l.universe (variant l.name b)));
}
